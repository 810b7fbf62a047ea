use Rattle.run_course.proofs.PlanLemmas.{is_plan_of}
use Rattle.run_course.proofs.showing.plan_shown.Goals as goal

pub returns-in-Ok-clause-of_script : goal.returns-in-Ok-clause-of_script
returns-in-Ok-clause-of_script c =
    let held = c.as_program-held in
    is_plan_of held.ensures.is c.types_law.ensures.well_formed held.ensures.well_formed
    c.in_ok-plan.ensures.means
