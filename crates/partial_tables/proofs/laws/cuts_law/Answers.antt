use Rattle.partial_tables.proofs.Cutting.{made-accumulator, made-finished}
use Rattle.partial_tables.proofs.laws.cuts_law.Goals as goal

pub returns-clause-one : goal.returns-clause-one
returns-clause-one c = made-accumulator

pub returns-clause-finished : goal.returns-clause-finished
returns-clause-finished c = made-finished
