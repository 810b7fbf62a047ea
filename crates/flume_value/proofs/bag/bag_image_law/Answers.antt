use Rattle.flume_value.proofs.BagLemmas.{bag_of-flat_map-bag_of, bag_of-flat_map-IsPermutation, bag_of-flat_map-given}
use Rattle.flume_value.proofs.bag.bag_image_law.Goals as goal

pub returns-clause-members : goal.returns-clause-members
returns-clause-members c = bag_of-flat_map-bag_of

pub returns-clause-moved : goal.returns-clause-moved
returns-clause-moved c = bag_of-flat_map-IsPermutation

pub returns-clause-given : goal.returns-clause-given
returns-clause-given c = bag_of-flat_map-given
