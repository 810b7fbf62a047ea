use Rattle.std.proofs.Common.{refl}
use Rattle.exec_graph.specs.Calls.{called}
use Rattle.exec_graph.specs.declared.step.Does.TheVariants as does
use Rattle.forest_steps.proofs.Answering.{combine_given, combine_trapped, trap_at}
use Rattle.forest_steps.proofs.answer.combine.Goals as goal

pub returns-in-Ok-clause-given : goal.returns-in-Ok-clause-given
returns-in-Ok-clause-given c w =
    combine_given w c.args.comb c.args.x.now c.in-Ok.pair c.in-Ok.ensures.pair

pub returns-in-Err-Trap-clause-trap : goal.returns-in-Err-Trap-clause-trap
returns-in-Err-Trap-clause-trap c w =
    trap_at c.args.origin (called w (does.Combine c.args.comb) c.args.x.now)
    c.in-Err-Trap.kind c.in-Err-Trap.key c.in-Err-Trap.key
    (combine_trapped w c.args.comb c.args.x.now c.in-Err-Trap.kind c.in-Err-Trap.key
    (rw c.in-Err-Trap.field-0-is at c.in-Err-Trap.ensures.trap)) refl
