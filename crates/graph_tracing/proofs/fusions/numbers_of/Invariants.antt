use Rattle.std.proofs.Common.{◌≡◌, map, take}
use Rattle.exec_graph.specs.declared.graph.Entry.{Entry}
use Rattle.graph_tracing.proofs.fusions.numbers_of.Given as goal

abbrev pub invariant-loop-entry : goal.invariant-loop-entry
invariant-loop-entry l =
    l.numbers.items ≡ map (λ (e : Entry). e.number) (take l.entry-index l.nodes)
