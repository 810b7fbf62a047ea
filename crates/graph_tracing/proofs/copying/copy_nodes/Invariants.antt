use Rattle.std.proofs.Common.{◌≡◌, take}
use Rattle.graph_tracing.proofs.copying.copy_nodes.Given as goal

abbrev pub invariant-loop-entry : goal.invariant-loop-entry
invariant-loop-entry l = l.copies ≡ take l.entry-index l.nodes
