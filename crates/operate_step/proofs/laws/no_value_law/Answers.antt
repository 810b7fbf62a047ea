use Rattle.operate_step.proofs.Calling.{none_made}
use Rattle.operate_step.proofs.laws.no_value_law.Goals as goal

pub returns : goal.returns
returns c = none_made
