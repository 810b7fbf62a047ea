use Rattle.std.proofs.Common.{◌≡◌, ◌-◌, ◌++◌, map}
use Rattle.exec_graph.specs.Twigs.{twig}
use Rattle.graph_build.specs.Calls.{needed_from, output_numbers}
use Rattle.graph_build.specs.Nodes.{bud}
use Rattle.graph_build.proofs.outputs.outputs_from.Given as goal

abbrev pub invariant-loop-name : goal.invariant-loop-name
invariant-loop-name l =
    map twig l.outputs.items
    ++ map bud (output_numbers l.number
    (needed_from l.program.script l.name (l.end - l.name)))
    ≡ map bud (output_numbers l.next
    (needed_from l.program.script l.first (l.end - l.first)))
