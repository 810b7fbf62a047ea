use Rattle.direct_meaning.proofs.WorkedLemmas.{sum_of_none, sum_of_two}
use Rattle.direct_meaning.proofs.laws.combined_law.Goals as goal

pub returns-clause-sum : goal.returns-clause-sum
returns-clause-sum c = sum_of_two

pub returns-clause-none : goal.returns-clause-none
returns-clause-none c = sum_of_none
