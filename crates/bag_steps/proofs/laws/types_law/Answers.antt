use Rattle.bag_steps.proofs.TypedRows.{counted-typed, greatest-typed, joined-typed}
use Rattle.bag_steps.proofs.laws.types_law.Goals as goal

pub returns-clause-counted : goal.returns-clause-counted
returns-clause-counted c = counted-typed

pub returns-clause-joined : goal.returns-clause-joined
returns-clause-joined c = joined-typed

pub returns-clause-greatest : goal.returns-clause-greatest
returns-clause-greatest c = greatest-typed
