use Rattle.std.proofs.Common.{◌≡◌, length, arith}
use Rattle.graph_build.specs.Graphs.{nodes_from, place_at_number}
use Rattle.graph_build.specs.Built.{built}
use Rattle.graph_build.proofs.StepLemmas.{nodes_all}
use Rattle.graph_build.proofs.builder.nodes_of.Goals as goal

pub returns : goal.returns
returns c =
    let end : c.loop-origin.origin ≡ length c.args.program.now.script.nodes = omega arith in
    nodes_all (place_at_number c.args.places.now) c.args.program.now.script c.loop-origin.nodes
    (nodes_from c.args.program.now.script (place_at_number c.args.places.now) 0 0
    (built c.args.program.now.script))
    c.loop-origin.origin c.loop-origin.source c.loop-origin.next end c.loop-origin.invariant
