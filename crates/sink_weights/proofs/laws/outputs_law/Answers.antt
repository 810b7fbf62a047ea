use Rattle.sink_weights.proofs.Reading.{numbers_in_order, read_all}
use Rattle.sink_weights.proofs.laws.outputs_law.Goals as goal

pub returns-clause-numbered : goal.returns-clause-numbered
returns-clause-numbered c = numbers_in_order

pub returns-clause-read : goal.returns-clause-read
returns-clause-read c = read_all
