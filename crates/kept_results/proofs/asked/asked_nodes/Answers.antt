use Rattle.std.proofs.Common.{◌<◌, length, arith}
use Rattle.kept_results.proofs.Steps.{asked_all, asked_next}
use Rattle.kept_results.proofs.asked.asked_nodes.Goals as goal

pub loop-number-preserved : goal.loop-number-preserved
loop-number-preserved c =
    let script = c.args.program.now.script in
    let below : c.loop-number.number < length script.nodes = omega arith in
    asked_next script c.loop-number.asked.items c.push_asked.new.asked.items c.loop-number.number
    below c.in_ok-push_asked.ensures c.loop-number.invariant

pub returns : goal.returns
returns c =
    asked_all c.args.program.now.script c.loop-number.asked.items c.loop-number.number
    (omega (arith, c.loop-number-test.false, c.node_count-number-end.ensures))
    c.loop-number.invariant
