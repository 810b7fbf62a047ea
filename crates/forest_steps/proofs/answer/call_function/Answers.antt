use Rattle.std.proofs.Common.{◌∙◌}
use Rattle.exec_graph.proofs.StepFacts.{called_is}
use Rattle.exec_graph.specs.Calls.{called}
use Rattle.exec_graph.specs.declared.step.Does.TheVariants as does
use Rattle.forest_steps.specs.Functions.{world_of}
use Rattle.forest_steps.proofs.Answering.{trap_at}
use Rattle.forest_steps.proofs.answer.call_function.Goals as goal

pub returns-in-Ok-clause-given : goal.returns-in-Ok-clause-given
returns-in-Ok-clause-given g c =
    let w = world_of (g.F.Functions.called c.args.functions.now) in
    called_is (does.Call c.args.number) w c.args.x.now ∙ c.in-Ok.ensures.emissions

pub returns-in_ok-copy-in-Err-Trap-clause-trap : goal.returns-in_ok-copy-in-Err-Trap-clause-trap
returns-in_ok-copy-in-Err-Trap-clause-trap g c =
    let w = world_of (g.F.Functions.called c.args.functions.now) in
    trap_at c.args.origin (called w (does.Call c.args.number) c.args.x.now) c.in-Err-Trap.kind
    c.args.x.now c.in_ok-copy-in-Err-Trap.field-0
    (called_is (does.Call c.args.number) w c.args.x.now
    ∙ (rw c.in-Err-Trap.field-0-is at c.in-Err-Trap.ensures.trap))
    c.in_ok-copy-in-Err-Trap.ensures
