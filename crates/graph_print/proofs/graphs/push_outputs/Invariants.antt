use Rattle.std.proofs.Common.{◌≡◌, ◌++◌, drop}
use Rattle.graph_print.specs.GraphText.{output_lines}
use Rattle.graph_print.proofs.graphs.push_outputs.Given as goal

abbrev pub invariant-loop-number : goal.invariant-loop-number
invariant-loop-number l =
    l.text.items
    ++ output_lines (drop l.number l.program.script.outputs)
    (drop l.number l.places)
    ≡ l.initial.text.items ++ output_lines l.program.script.outputs l.places
