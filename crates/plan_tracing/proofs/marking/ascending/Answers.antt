use Rattle.std.proofs.Common.{◌≡◌, ℕ, eqb, List, map, sym, ap, ◌∙◌, subst}
use Rattle.std.specs.List.{dedup}
use Rattle.std.specs.List.Sorted.{IsPermutation}
use Rattle.std.proofs.lemmas.List.Filters.{dedup_is}
use Rattle.exec_graph.specs.Readers.{among}
use Rattle.plan_tracing.specs.Lists.{Rise}
use Rattle.plan_tracing.specs.inner.Codes.{place_at}
use Rattle.plan_tracing.proofs.Codes.{rise_codes, same_codes}
use Rattle.plan_tracing.proofs.marking.ascending.Goals as goal

pub returns-clause-rise : goal.returns-clause-rise
returns-clause-rise c =
    let ks : List ℕ = c.sort_unstable.new.self.items in
    let is : c.in_ok-all.all ≡ map place_at (dedup eqb ks) =
    c.in_ok-all.ensures
    ∙ ap (map place_at) (c.as_slice.ensures.value
    ∙ dedup_is eqb ks c.dedup.new.self.items c.dedup.ensures.filtered) in
    subst Rise (sym is) (rise_codes ks c.sort_unstable.ensures.sorted)

pub returns-clause-same : goal.returns-clause-same
returns-clause-same c = λ d.
    let ks : List ℕ = c.sort_unstable.new.self.items in
    let is : c.in_ok-all.all ≡ map place_at (dedup eqb ks) =
    c.in_ok-all.ensures
    ∙ ap (map place_at) (c.as_slice.ensures.value
    ∙ dedup_is eqb ks c.dedup.new.self.items c.dedup.ensures.filtered) in
    ap (among d) is
    ∙ same_codes c.args.places.now ks c.in_ok-codes.ensures.small
    (subst (λ (xs : List ℕ). IsPermutation xs ks) c.in_ok-codes.ensures.codes
    c.sort_unstable.ensures.permutation) d
