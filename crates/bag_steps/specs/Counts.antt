-- How often each value of a bag is in it.
use Rattle.std.specs.Prelude.{pos, List, Result}
use Rattle.std.specs.List.{flat_map}
use Rattle.flume_value.specs.declared.fault.Kind.{Kind}
use Rattle.flume_value.specs.declared.value.Value.{Value}
use Rattle.flume_value.specs.Bag.{bag_of, times}
use Rattle.keyed_steps.specs.of_bag_groups.Groups.{distinct}
use Rattle.keyed_steps.specs.of_bag_groups.Combining.{combined_pair, trapped_key}
use Rattle.keyed_steps.specs.of_combine_table.Combinations.{int_or_overflow, wrapped}

-- how often the value is in the bag, as 128 bits with a sign hold it: an int, or the trap where
-- it is none
abbrev pub count_of_value : List Value → Value → Result Value Kind
count_of_value bag v = int_or_overflow (wrapped (pos (times bag v)))

-- for each distinct value of the bag, ascending, the pair of it and how often it is there, where
-- that is an int
abbrev pub counted : List Value → List Value
counted bag = flat_map (λ v. combined_pair v (count_of_value bag v)) (distinct (bag_of bag))

-- the values that are there more often than an int can say: for each the kind of its trap and it
abbrev pub counted_traps : List Value → List (Kind × Value)
counted_traps bag = flat_map (λ v. trapped_key v (count_of_value bag v)) (distinct (bag_of bag))
