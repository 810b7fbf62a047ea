use Rattle.std.proofs.Common.{◌≡◌, ◌++◌, drop}
use Rattle.exec_graph.specs.Readers.{those}
use Rattle.graph_tracing.specs.inner.Callers.{goes_by}
use Rattle.graph_tracing.proofs.fusions.kid_numbers.Given as goal

abbrev pub invariant-loop-entry : goal.invariant-loop-entry
invariant-loop-entry l =
    l.numbers.items ++ those (goes_by l.nodes l.marks) (drop l.entry-index l.nodes)
    ≡ those (goes_by l.nodes l.marks) l.nodes
