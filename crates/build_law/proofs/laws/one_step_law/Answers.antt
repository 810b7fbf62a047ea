use Rattle.build_law.proofs.OneStep.{has_narrow_steps, is_unfused}
use Rattle.build_law.proofs.laws.one_step_law.Goals as goal

pub returns-clause-unfused : goal.returns-clause-unfused
returns-clause-unfused c = is_unfused

pub returns-clause-narrow : goal.returns-clause-narrow
returns-clause-narrow c = has_narrow_steps
