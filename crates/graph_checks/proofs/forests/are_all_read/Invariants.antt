use Rattle.std.proofs.Common.{◌≡◌, drop}
use Rattle.graph_checks.specs.inner.Checks.{all_read}
use Rattle.graph_checks.proofs.forests.are_all_read.Given as goal

abbrev pub invariant-loop-spot : goal.invariant-loop-spot
invariant-loop-spot l = all_read l.graph l.node (drop l.spot-index l.spots)
    ≡ all_read l.graph l.node l.spots
