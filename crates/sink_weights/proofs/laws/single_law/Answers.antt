use Rattle.sink_weights.proofs.Singles.{one_output, single_step}
use Rattle.sink_weights.proofs.laws.single_law.Goals as goal

pub returns-clause-step : goal.returns-clause-step
returns-clause-step c = single_step

pub returns-clause-one : goal.returns-clause-one
returns-clause-one c = one_output
