use Rattle.std.proofs.Common.{◌≡◌, ◌++◌, drop}
use Rattle.graph_build.specs.Graphs.{nodes_from, place_at_number}
use Rattle.graph_build.specs.Built.{built}
use Rattle.graph_build.proofs.builder.nodes_of.Given as goal

abbrev pub invariant-loop-origin : goal.invariant-loop-origin
invariant-loop-origin l =
    l.nodes
    ++ nodes_from l.program.script (place_at_number l.places) l.source l.next
    (drop l.origin (built l.program.script))
    ≡ nodes_from l.program.script (place_at_number l.places) 0 0 (built l.program.script)
