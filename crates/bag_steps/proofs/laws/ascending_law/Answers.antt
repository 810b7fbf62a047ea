use Rattle.bag_steps.proofs.RowOrder.{counted-IsSorted, greatest-IsSorted, joined-IsSorted}
use Rattle.bag_steps.proofs.laws.ascending_law.Goals as goal

pub returns-clause-counted : goal.returns-clause-counted
returns-clause-counted c = counted-IsSorted

pub returns-clause-joined : goal.returns-clause-joined
returns-clause-joined c = joined-IsSorted

pub returns-clause-greatest : goal.returns-clause-greatest
returns-clause-greatest c = greatest-IsSorted
