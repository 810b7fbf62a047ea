use Rattle.std.proofs.lemmas.Result.{err_from_is_err_and}
use Rattle.exec_graph.specs.Forests.{grown}
use Rattle.forest_steps.specs.Functions.{world_of}
use Rattle.forest_steps.specs.Running.{run}
use Rattle.forest_steps.proofs.Twigging.{safe_member}
use Rattle.forest_steps.proofs.Visiting.{steps_end, steps_on}
use Rattle.forest_steps.proofs.visit.visit_steps.Goals as goal

pub returns-in_err-next : goal.returns-in_err-next
returns-in_err-next g c =
    let w = world_of (g.F.Functions.called c.args.functions.now) in
    let whole = run w c.args.sizes.now c.args.at (grown c.args.steps.now) c.args.x.now
    c.args.outputs.now in
    let p = err_from_is_err_and c.from_residual.result c.from_residual.ensures.1 in
    rw (p.1, p.2)
    (steps_end w c.args.sizes.now c.args.steps.now c.loop-step.step-index c.step-item.result
    c.loop-step.next c.args.x.now c.loop-step.outputs whole c.in_err-next.field-0.0
    c.loop-step-test.true c.step-item.is c.loop-step.invariant c.in_err-next.ensures.ran)

pub loop-step-preserved : goal.loop-step-preserved
loop-step-preserved g c =
    let w = world_of (g.F.Functions.called c.args.functions.now) in
    let whole = run w c.args.sizes.now c.args.at (grown c.args.steps.now) c.args.x.now
    c.args.outputs.now in
    steps_on w c.args.sizes.now c.args.steps.now c.loop-step.step-index c.step-item.result
    c.loop-step.next c.in_ok-next.next c.args.x.now c.loop-step.outputs c.visit_step.new.outputs
    whole c.loop-step-test.true c.step-item.is c.in_ok-next.ensures.place c.loop-step.invariant
    c.in_ok-next.ensures.ran

pub visit_step-requires : goal.visit_step-requires
visit_step-requires g c =
    let w = world_of (g.F.Functions.called c.args.functions.now) in
    let takes = g.F.Functions.can_call c.args.functions.now in
    safe_member w takes c.args.steps.now c.args.x.now c.loop-step.step-index c.step-item.result
    c.requires c.loop-step-test.true c.step-item.is
