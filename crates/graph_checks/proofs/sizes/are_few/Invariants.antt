use Rattle.std.proofs.Common.{◌≡◌, ◌≤◌, ◌+◌, drop}
use Rattle.exec_graph.specs.Wellformed.{total_size, most_nodes}
use Rattle.graph_checks.proofs.sizes.are_few.Given as goal

abbrev pub invariant-loop-e : goal.invariant-loop-e
invariant-loop-e l =
    (total_size l.nodes + l.left ≡ most_nodes + total_size (drop l.e-index l.nodes))
    × (l.left ≤ most_nodes)
