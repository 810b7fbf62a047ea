use Rattle.std.proofs.Common.{◌≡◌, ℕ, true, List, sym, ap, ap₂, ◌∙◌, subst}
use Rattle.std.specs.Prelude.{nat_eq}
use Rattle.std.specs.Map.{lookup}
use Rattle.exec_graph.specs.Readers.{those}
use Rattle.exec_graph.specs.declared.graph.Entry.{Entry}
use Rattle.exec_graph.specs.declared.graph.Graph.{Graph}
use Rattle.exec_graph.specs.declared.graph.Place.{Place}
use Rattle.graph_tracing.specs.inner.Callers.{goes_by, kid_numbers}
use Rattle.graph_tracing.specs.inner.Numbers.{KeepsAll, number_in, number_or}
use Rattle.graph_tracing.specs.inner.Waiting.{IsLeaving, IsUnderway}
use Rattle.graph_tracing.specs.declared.trace.Trace.{Trace}
use Rattle.graph_tracing.proofs.Whole.{fusion_is}
use Rattle.graph_tracing.proofs.Waiting.{numbers}
use Rattle.graph_tracing.proofs.fusions.fusions_of.Goals as goal

pub with_kids-requires-clause-keeps : goal.with_kids-requires-clause-keeps
with_kids-requires-clause-keeps c =
    subst KeepsAll
    (sym (ap (λ es (n : ℕ). number_or (lookup (nat_eq n) es) n) c.new-2.ensures.empty))
    (λ m i e. e)

pub returns : goal.returns
returns c = λ b at marks fu.
    let ns : List ℕ = numbers b.graph.nodes in
    let told : c.in_ok-numbers.numbers.items ≡ ns =
    c.in_ok-numbers.ensures
    ∙ ap numbers (c.as_slice.ensures ∙ ap (λ (g : Graph). g.nodes) (sym at)) in
    let first : c.as_slice-3.result.now ≡ ns = c.as_slice-3.ensures.value ∙ told in
    let read : c.in_ok-readers.readers.items ≡ kid_numbers b =
    c.in_ok-readers.ensures
    ∙ ap₂ (λ (es : List Entry) (cs : List Place). those (goes_by es cs) es)
    (c.as_slice-2.ensures ∙ ap (λ (g : Graph). g.nodes) (sym at)) (sym marks) in
    let second : c.as_slice-4.result.now ≡ kid_numbers b = c.as_slice-4.ensures.value ∙ read in
    let old : Trace = record { graph = c.args.graph; rewrites = c.new.result } in
    let l : ℕ → ℕ = number_in c.new-2.result in
    let none : l ≡ (λ n. n) =
    ap (λ es (n : ℕ). number_or (lookup (nat_eq n) es) n) c.new-2.ensures.empty in
    fusion_is b fu old c.in_ok-siblings.siblings c.in_ok-kids.kids.trace l
    (number_in c.in_ok-kids.kids.numbers) (sym at) c.new.ensures none
    c.in_ok-siblings.ensures.traced c.in_ok-kids.ensures.traced
    (λ h f all apart u. c.in_ok-siblings.ensures.whole h f all apart
    (subst (λ (xs : List ℕ). IsUnderway true (λ n. n) f old h xs all) (sym first) u))
    (λ h f all gone u. (c.in_ok-kids.ensures.whole h f all
    (subst (λ (xs : List ℕ). IsLeaving l f c.in_ok-siblings.siblings h xs all) (sym second)
    (record { gone = gone; underway = u }))).underway)
