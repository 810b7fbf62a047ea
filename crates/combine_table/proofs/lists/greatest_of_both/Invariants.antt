use Rattle.std.proofs.Common.{◌≡◌, ◌++◌, reverse, vec_len}
use Rattle.std.specs.List.Sorted.{IsSorted}
use Rattle.flume_value.specs.Order.{value_cmp}
use Rattle.flume_value.specs.Bag.{bag_of}
use Rattle.combine_table.proofs.lists.greatest_of_both.Given as goal

abbrev pub invariant-loop : goal.invariant-loop
invariant-loop l = record {
  left : IsSorted value_cmp l.left.items;
  right : IsSorted value_cmp l.right.items;
  all : bag_of (l.initial.left.items ++ l.initial.right.items)
      ≡ bag_of (l.left.items ++ l.right.items) ++ reverse l.descending.items;
  count : vec_len l.descending ≡ l.counter;
}
