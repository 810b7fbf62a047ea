use Rattle.graph_checks.proofs.Walks.{AreDone}
use Rattle.graph_checks.proofs.order.reach_all.Given as goal

abbrev pub invariant-loop-i : goal.invariant-loop-i
invariant-loop-i l = AreDone l.edges l.marks l.i
