use Rattle.std.proofs.Common.{◌≡◌, ◌++◌, ◌+◌, reverse, length}
use Rattle.std.specs.List.Sorted.{IsSorted}
use Rattle.flume_value.specs.Order.{value_cmp}
use Rattle.flume_value.specs.Bag.{bag_of}
use Rattle.combine_table.specs.Combinations.{distinct}
use Rattle.combine_table.proofs.lists.distinct_of_both.Given as goal

abbrev pub invariant-draws : goal.invariant-draws
invariant-draws l = record {
  left : IsSorted value_cmp l.left.items;
  right : IsSorted value_cmp l.right.items;
  all : distinct (bag_of (l.initial.left.items ++ l.initial.right.items))
      ≡ distinct (bag_of (l.left.items ++ l.right.items) ++ reverse l.descending.items);
  once : distinct (reverse l.descending.items) ≡ reverse l.descending.items;
}

abbrev pub decreases-draws : goal.decreases-draws
decreases-draws l = length l.left.items + length l.right.items
