use Rattle.std.proofs.Common.{◌+◌, ◌<◌, length, arith, sym, ◌∙◌}
use Rattle.exec_plan.specs.Wellformed.{results_given}
use Rattle.plan_checks.proofs.Deciding.{outs_step}
use Rattle.plan_checks.proofs.channels.are_outs_ok.Goals as goal

pub loop-channel-preserved : goal.loop-channel-preserved
loop-channel-preserved c =
    let i = c.loop-channel.invariant in
    let w = c.width_of.ensures in
    let s = c.saturating_add-count.ensures in
    let lt : c.loop-channel.channel-index < length c.args.outputs.now = omega arith in (
      i.0 + results_given c.channel-item.result,
      omega arith,
      outs_step c.args.inputs.now c.loop-channel.passed c.has_passed-passed.result i.0
          c.loop-channel.channel-index c.args.outputs.now c.channel-item.result lt
          c.channel-item.is (sym (c.is_out_ok.ensures i.0 i.1) ∙ c.if-not-is_out_ok.false)
          c.has_passed-passed.ensures
          ∙ i.2,
    )
