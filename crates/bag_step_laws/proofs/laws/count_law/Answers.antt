use Rattle.bag_step_laws.proofs.Counting.{counted-ones, counted-traps}
use Rattle.bag_step_laws.proofs.laws.count_law.Goals as goal

pub returns-clause-counts : goal.returns-clause-counts
returns-clause-counts c = counted-ones

pub returns-clause-traps : goal.returns-clause-traps
returns-clause-traps c = counted-traps
