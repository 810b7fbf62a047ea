use Rattle.direct_meaning.proofs.WorkedLemmas.{none_emitted, on_two, one_emitted, two_emitted}
use Rattle.direct_meaning.proofs.laws.operated_law.Goals as goal

pub returns-clause-one : goal.returns-clause-one
returns-clause-one c = one_emitted

pub returns-clause-not_one : goal.returns-clause-not_one
returns-clause-not_one c = none_emitted

pub returns-clause-two : goal.returns-clause-two
returns-clause-two c = two_emitted

pub returns-clause-several : goal.returns-clause-several
returns-clause-several c = on_two
