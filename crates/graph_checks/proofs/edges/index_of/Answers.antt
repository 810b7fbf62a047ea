use Rattle.std.proofs.Common.{ℕ, sym, subst}
use Rattle.std.specs.Prelude.{Result}
use Rattle.std.specs.Ordering.{nat_cmp}
use Rattle.std.specs.List.Sorted.{IsBinarySearchResult}
use Rattle.graph_checks.proofs.Edging.{found_index, no_index}
use Rattle.graph_checks.proofs.edges.index_of.Goals as goal

pub returns-in-Ok : goal.returns-in-Ok
returns-in-Ok c = sym (found_index c.args.numbers.now c.args.number c.in-Ok.i c.requires
    (subst (λ (r : Result ℕ ℕ). IsBinarySearchResult (λ y. nat_cmp y c.args.number)
    c.args.numbers.now r) c.in-Ok.is c.binary_search.ensures.position))

pub returns-in-Err : goal.returns-in-Err
returns-in-Err c = sym (no_index c.args.numbers.now c.args.number c.in-Err.field-0 c.requires
    (subst (λ (r : Result ℕ ℕ). IsBinarySearchResult (λ y. nat_cmp y c.args.number)
    c.args.numbers.now r) c.in-Err.is c.binary_search.ensures.position))
