use Rattle.std.proofs.Common.{◌≡◌, ◌++◌, drop, map}
use Rattle.graph_checks.specs.inner.Edges.{edges_of}
use Rattle.exec_graph.specs.declared.graph.Entry.{Entry}
use Rattle.graph_checks.proofs.edges.all_edges.Given as goal

abbrev pub invariant-loop-e : goal.invariant-loop-e
invariant-loop-e l = l.all.items ++ map (λ (e : Entry). edges_of l.numbers e.node)
    (drop l.e-index l.nodes) ≡ map (λ (e : Entry). edges_of l.numbers e.node) l.nodes
