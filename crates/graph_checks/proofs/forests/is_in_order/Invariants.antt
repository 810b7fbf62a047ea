use Rattle.std.proofs.Common.{◌≡◌, ◌≤◌, drop}
use Rattle.graph_checks.specs.inner.Checks.{in_order}
use Rattle.graph_checks.proofs.forests.is_in_order.Given as goal

abbrev pub invariant-loop-spot : goal.invariant-loop-spot
invariant-loop-spot l =
    (in_order l.next (drop l.spot-index l.spots) ≡ in_order 0 l.spots) × (l.next ≤ l.spot-index)
