use Rattle.std.specs.Prelude.{nat_eq, ℕ}
use Rattle.std.proofs.Common.{◌≡◌, ◌||◌, drop}
use Rattle.std.specs.List.{list_any}
use Rattle.std.specs.HashSet.{contains}
use Rattle.graph_checks.specs.inner.Objects.{has_object}
use Rattle.graph_checks.proofs.objects.objects_of.Given as goal

abbrev pub invariant-loop-e : goal.invariant-loop-e
invariant-loop-e l = (n : ℕ)
    → (contains nat_eq l.objects n || list_any (has_object n) (drop l.e-index l.nodes))
    ≡ list_any (has_object n) l.nodes
