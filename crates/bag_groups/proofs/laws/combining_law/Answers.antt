use Rattle.bag_groups.specs.Combining.{group_of}
use Rattle.bag_groups.proofs.BagParts.{chosen-bag_of}
use Rattle.bag_groups.proofs.CombiningLemmas.{combined_each-append, given, traps_of_each-append}
use Rattle.bag_groups.proofs.laws.combining_law.Goals as goal

pub returns-clause-bag : goal.returns-clause-bag
returns-clause-bag c f pairs = chosen-bag_of group_of (given f) pairs

pub returns-clause-sum : goal.returns-clause-sum
returns-clause-sum c = combined_each-append

pub returns-clause-traps : goal.returns-clause-traps
returns-clause-traps c = traps_of_each-append
