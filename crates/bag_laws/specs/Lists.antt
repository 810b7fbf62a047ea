-- Collections whose lists stand in order.
use Rattle.std.specs.Prelude.{◌≡◌}
use Rattle.std.specs.List.Sorted.{IsSorted}
use Rattle.flume_value.specs.Bag.{bag_of}
use Rattle.flume_value.specs.Order.{value_cmp}
use Rattle.flume_collection.specs.Collection.{Collection}
use Rattle.flume_collection.specs.Traps.{trap_set}

-- the members ascend, so that they are their own bag, and the traps are their own set
pub record IsOfSortedLists (c : Collection) : Type 0 where
  pub ascending : IsSorted value_cmp c.bag
  pub bag : bag_of c.bag ≡ c.bag
  pub set : trap_set c.traps ≡ c.traps
