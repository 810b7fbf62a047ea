use Rattle.bag_laws.proofs.ListLemmas.{greatest_of_bag, made_in_order, meant_in_order}
use Rattle.bag_laws.proofs.lists.lists_law.Goals as goal

pub returns-clause-script : goal.returns-clause-script
returns-clause-script c = made_in_order

pub returns-clause-graph : goal.returns-clause-graph
returns-clause-graph c = meant_in_order

pub returns-clause-greatest : goal.returns-clause-greatest
returns-clause-greatest c = greatest_of_bag
