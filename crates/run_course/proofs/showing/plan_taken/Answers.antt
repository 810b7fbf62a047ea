use Rattle.std.proofs.Common.{subst, sym}
use Rattle.outer_plans.specs.Plans.{IsTaken}
use Rattle.run_texts.specs.declared.status.Status.{Status}
use Rattle.script_program.specs.Program.{Numbered}
use Rattle.run_course.specs.inner.Course.{IsTakingStop}
use Rattle.run_course.proofs.PlanLemmas.{is_plan_of, taking_stop}
use Rattle.run_course.proofs.showing.plan_taken.Goals as goal

pub returns-in-Ok-clause-taken : goal.returns-in-Ok-clause-taken
returns-in-Ok-clause-taken c =
    subst (λ (p : Numbered). IsTaken p.script c.args.bytes.now c.in-Ok.plan)
    c.as_program-held.ensures.is c.in-Ok.ensures.answer

pub returns-in-Ok-clause-of_script : goal.returns-in-Ok-clause-of_script
returns-in-Ok-clause-of_script c =
    let held = c.as_program-held in
    is_plan_of held.ensures.is c.types_law.ensures.well_formed held.ensures.well_formed
    c.in-Ok.ensures.means

pub returns-in-Err-clause-stop : goal.returns-in-Err-clause-stop
returns-in-Err-clause-stop c =
    let held = c.as_program-held in
    let script = held.result.now.script in
    subst (λ (p : Numbered). IsTakingStop p.script c.args.bytes.now c.refusal.result)
    held.ensures.is
    (subst (λ (s : Status). IsTakingStop script c.args.bytes.now s) (sym c.refusal.ensures)
    (taking_stop script c.args.bytes.now c.in-Err.fault c.in-Err.ensures.answer))
