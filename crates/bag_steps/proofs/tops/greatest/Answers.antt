use Rattle.std.proofs.Common.{arith}
use Rattle.flume_value.specs.Bag.{bag_of}
use Rattle.flume_value.proofs.BagLemmas.{bag_of-settled}
use Rattle.keyed_steps.specs.of_combine_table.Combinations.{greatest as greatest_of}
use Rattle.bag_steps.proofs.GroupSteps.{sorted_as}
use Rattle.bag_steps.proofs.RowOrder.{greatest-IsSorted, greatest_is}
use Rattle.bag_steps.proofs.tops.greatest.Goals as goal

pub returns-clause-greatest : goal.returns-clause-greatest
returns-clause-greatest c =
    greatest_is c.args.n c.saturating_sub-rest.result c.args.bag.now c.in_ok-copy_all.field-0
    c.into_vec.result.items c.requires c.into_vec.ensures c.in_ok-copy_all.ensures (omega arith)

pub returns-clause-ascending : goal.returns-clause-ascending
returns-clause-ascending c =
    sorted_as _ (greatest_of c.args.n (bag_of c.args.bag.now)) (returns-clause-greatest c)
    (greatest-IsSorted c.args.n c.args.bag.now)

pub returns-clause-bag : goal.returns-clause-bag
returns-clause-bag c = bag_of-settled c.into_vec.result.items (returns-clause-ascending c)
