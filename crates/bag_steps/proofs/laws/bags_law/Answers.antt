use Rattle.bag_steps.proofs.BagRows.{counted-bag_of, counted_traps-bag_of, joined-bag_of}
use Rattle.bag_steps.proofs.laws.bags_law.Goals as goal

pub returns-clause-counted : goal.returns-clause-counted
returns-clause-counted c = counted-bag_of

pub returns-clause-traps : goal.returns-clause-traps
returns-clause-traps c = counted_traps-bag_of

pub returns-clause-joined : goal.returns-clause-joined
returns-clause-joined c = joined-bag_of
