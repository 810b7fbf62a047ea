-- A list, cut into parts in any way, each part with its accumulator, and these merged in any order.
use Rattle.std.specs.Prelude.{List, ◌++◌}
use Rattle.std.specs.List.Sorted.{IsPermutation}
use Rattle.flume_value.specs.declared.value.Value.{Value}
use Rattle.flume_value.specs.Bag.{bag_of}
use Rattle.combine_table.specs.declared.comb.Comb.{Comb}
use Rattle.combine_table.specs.Accumulators.{accumulator, merged}

-- the accumulator is made of the values: of all of them at once, or by a merge of those of two
-- parts, which were made so; and in which order the values stand says nothing
pub data IsMadeOf (c : Comb) : List Value → Value → Type 0 where
  at_once : (xs : List Value) → IsMadeOf c xs (accumulator c (bag_of xs))
  by_merge : (xs ys : List Value) (a b : Value) → IsMadeOf c xs a → IsMadeOf c ys b
      → IsMadeOf c (xs ++ ys) (merged c a b)
  in_order : (xs ys : List Value) (a : Value) → IsPermutation xs ys → IsMadeOf c xs a
      → IsMadeOf c ys a
