use Rattle.std.proofs.Common.{◌<◌, length, arith}
use Rattle.script_program.proofs.SourceSteps.{kinds_next}
use Rattle.script_program.proofs.sources.source_kinds.Goals as goal

pub loop-number-preserved : goal.loop-number-preserved
loop-number-preserved c =
    let below : c.loop-number.number < length c.args.program.now.script.nodes = omega arith in
    kinds_next c.args.program.now.script c.loop-number.kinds.items c.push_kind.new.kinds.items
    c.loop-number.number below c.in_ok-push_kind.ensures c.loop-number.invariant
