use Rattle.forest_courses.specs.of_forest_steps.Functions.{world_of}
use Rattle.task_safety.specs.Taking.{Takes}
use Rattle.task_safety.proofs.Taken.{all_safe_beside}
use Rattle.task_safety.proofs.laws.taken_law.Goals as goal

pub returns : goal.returns
returns g c s w v does xs same more all =
    let functions = c.args.functions.now in
    all_safe_beside v (Takes s) (g.F.Functions.can_call functions) more w
    (world_of (g.F.Functions.called functions)) same does xs all
