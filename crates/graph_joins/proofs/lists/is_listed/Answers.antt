use Rattle.std.specs.Prelude.{IfNone, IfSome, OnSome}
use Rattle.std.proofs.Common.{◌≡◌, ◌≤◌, ◌<◌, ℕ, List, Option, eqb, get_or, length, ap, sym, subst, ◌∙◌}
use Rattle.graph_joins.proofs.SeekLemmas.{kth_behind, kth_told}
use Rattle.graph_joins.proofs.lists.is_listed.Goals as goal

pub returns-in-Some : goal.returns-in-Some
returns-in-Some c =
    let ns : List ℕ = c.args.names.now in
    let k : ℕ = c.args.number in
    let x : ℕ = c.in-Some.other in
    let lt : k < length ns =
    subst (λ (o : Option ℕ). OnSome o (k < length ns)) c.in-Some.is c.get.ensures.within in
    let at : x ≡ get_or ns k x =
    subst (λ (o : Option ℕ). IfSome o (λ n. n ≡ get_or ns k n)) c.in-Some.is
    c.get.ensures.value in
    ap (λ (n : ℕ). eqb n c.args.name) at ∙ sym (kth_told ns k x c.args.name lt)

pub returns-in-None : goal.returns-in-None
returns-in-None c =
    let ns : List ℕ = c.args.names.now in
    let k : ℕ = c.args.number in
    sym (kth_behind ns k c.args.name
    (subst (λ (o : Option ℕ). IfNone o (length ns ≤ k)) c.in-None.is c.get.ensures.none))
