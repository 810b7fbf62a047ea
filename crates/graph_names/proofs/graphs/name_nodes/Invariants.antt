use Rattle.std.proofs.Common.{◌≡◌, ◌++◌, map, take, drop}
use Rattle.graph_names.specs.inner.Nodes.{under_names}
use Rattle.graph_names.proofs.graphs.name_nodes.Given as goal

abbrev pub invariant-loop-entry : goal.invariant-loop-entry
invariant-loop-entry l =
    take l.entry-index l.entry-items
    ++ map (under_names l.next) (drop l.entry-index l.entry-items)
    ≡ map (under_names l.next) l.initial.entry-items
