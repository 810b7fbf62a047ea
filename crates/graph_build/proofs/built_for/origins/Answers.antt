use Rattle.std.proofs.Common.{◌≡◌, ◌<◌, length, arith}
use Rattle.graph_build.specs.Origins.{origins_of}
use Rattle.graph_build.proofs.OriginLemmas.{origins_all, origins_next}
use Rattle.graph_build.proofs.built_for.origins.Goals as goal

pub loop-origin-preserved : goal.loop-origin-preserved
loop-origin-preserved c =
    let below : c.loop-origin.origin < length c.args.program.now.script.nodes = omega arith in
    origins_next c.args.program.now.script c.loop-origin.origins.items
    c.push_origins.new.origins.items (origins_of c.args.program.now.script) c.loop-origin.origin
    below c.in_ok-push_origins.ensures c.loop-origin.invariant

pub returns : goal.returns
returns c =
    let end : c.loop-origin.origin ≡ length c.args.program.now.script.nodes = omega arith in
    origins_all c.args.program.now.script c.loop-origin.origins.items
    (origins_of c.args.program.now.script) c.loop-origin.origin end c.loop-origin.invariant
