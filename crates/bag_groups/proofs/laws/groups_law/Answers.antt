use Rattle.bag_groups.proofs.Grouping.{grouped-bag_of, grouped-IsSorted}
use Rattle.bag_groups.proofs.laws.groups_law.Goals as goal

pub returns-clause-bag : goal.returns-clause-bag
returns-clause-bag c = grouped-bag_of

pub returns-clause-ascending : goal.returns-clause-ascending
returns-clause-ascending c = grouped-IsSorted
