use Rattle.std.proofs.Common.{◌≡◌, ◌++◌, drop}
use Rattle.std.specs.List.{flat_map}
use Rattle.graph_print.specs.GraphText.{node_line}
use Rattle.graph_print.proofs.graphs.push_nodes.Given as goal

abbrev pub invariant-loop-entry : goal.invariant-loop-entry
invariant-loop-entry l =
    l.text.items
    ++ flat_map (node_line l.program.script l.origins) (drop l.entry-index l.nodes)
    ≡ l.initial.text.items ++ flat_map (node_line l.program.script l.origins) l.nodes
