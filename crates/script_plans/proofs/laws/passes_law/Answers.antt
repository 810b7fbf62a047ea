use Rattle.script_plans.proofs.Planned.{can_optimise}
use Rattle.script_plans.proofs.laws.passes_law.Goals as goal

pub returns : goal.returns
returns c = λ script graph well built ok.
    can_optimise script graph well built ok c.one_step_law.ensures.unfused
    c.one_step_law.ensures.narrow
