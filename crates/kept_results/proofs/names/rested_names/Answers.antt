use Rattle.std.proofs.Common.{arith}
use Rattle.kept_results.proofs.Steps.{flagged_next, told_all}
use Rattle.script_program.specs.Rested.{rested_names, rests}
use Rattle.kept_results.proofs.names.rested_names.Goals as goal

pub loop-number-preserved : goal.loop-number-preserved
loop-number-preserved c =
    let script = c.args.program.now.script in
    flagged_next script.nodes (rests script c.args.asked) (λ it. it.1.0) c.in_ok-flags.flags.items
    c.loop-number.names c.push_rested.new.names (rested_names script c.args.asked)
    c.loop-number.number c.index.result.now (omega arith) c.in_ok-flags.ensures.many
    c.in_ok-flags.ensures.told c.index.ensures c.in_ok-push_rested.ensures c.loop-number.invariant

pub returns : goal.returns
returns c =
    let script = c.args.program.now.script in
    told_all script.nodes (rests script c.args.asked) (λ it. it.1.0) c.loop-number.names
    (rested_names script c.args.asked) c.loop-number.number
    (omega (arith, c.loop-number-test.false, c.node_count-number-end.ensures))
    c.loop-number.invariant
