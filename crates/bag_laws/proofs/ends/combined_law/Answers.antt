use Rattle.std.proofs.Common.{ap, refl}
use Rattle.flume_value.proofs.BagLemmas.{bag_of-IsPermutation, bag_of-settled}
use Rattle.combine_table.specs.Combinations.{combined}
use Rattle.bag_laws.proofs.EndLemmas.{adds, max_is, min_is, top_is}
use Rattle.bag_laws.proofs.ends.combined_law.Goals as goal

pub returns-clause-order : goal.returns-clause-order
returns-clause-order c = λ k xs ys moved. ap (combined k) (bag_of-IsPermutation xs ys moved)

pub returns-clause-adds : goal.returns-clause-adds
returns-clause-adds c = adds

pub returns-clause-ascending : goal.returns-clause-ascending
returns-clause-ascending c = λ k xs up. ap (combined k) (bag_of-settled xs up)

pub returns-clause-min : goal.returns-clause-min
returns-clause-min c = min_is

pub returns-clause-max : goal.returns-clause-max
returns-clause-max c = max_is

pub returns-clause-none : goal.returns-clause-none
returns-clause-none c = refl

pub returns-clause-none_greatest : goal.returns-clause-none_greatest
returns-clause-none_greatest c = refl

pub returns-clause-top : goal.returns-clause-top
returns-clause-top c = top_is
