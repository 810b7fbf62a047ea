use Rattle.std.proofs.Common.{◌≡◌, drop, None}
use Rattle.graph_checks.specs.inner.Numbers.{up_from}
use Rattle.graph_checks.proofs.founded.rises.Given as goal

abbrev pub invariant-loop-e : goal.invariant-loop-e
invariant-loop-e l = up_from l.low l.next (drop l.e-index l.nodes) ≡ up_from None l.next l.nodes
