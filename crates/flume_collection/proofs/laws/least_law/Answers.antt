use Rattle.flume_collection.proofs.TrapSets.{first_least, one_least, some_least}
use Rattle.flume_collection.proofs.laws.least_law.Goals as goal

pub returns-clause-first : goal.returns-clause-first
returns-clause-first c ts us t e = first_least ts us t e

pub returns-clause-one : goal.returns-clause-one
returns-clause-one c = one_least

pub returns-clause-some : goal.returns-clause-some
returns-clause-some c = some_least
