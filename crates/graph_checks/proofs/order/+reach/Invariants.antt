use Rattle.graph_checks.specs.inner.Order.{fresh}
use Rattle.graph_checks.proofs.Walks.{IsWalk}
use Rattle.graph_checks.proofs.order.+reach.Given as goal

abbrev pub decreases-reach : goal.decreases-reach
decreases-reach l = fresh l.marks.now

abbrev pub invariant-loop-k : goal.invariant-loop-k
invariant-loop-k l = IsWalk l.edges l.i l.fn.marks l.marks l.k
