use Rattle.flume_value.proofs.BagLemmas.{times-append, bag_of-sum, bag_of-either_order}
use Rattle.flume_value.proofs.bag.bag_sum_law.Goals as goal

pub returns-clause-times : goal.returns-clause-times
returns-clause-times c = times-append

pub returns-clause-sum : goal.returns-clause-sum
returns-clause-sum c = bag_of-sum

pub returns-clause-either_order : goal.returns-clause-either_order
returns-clause-either_order c = bag_of-either_order
