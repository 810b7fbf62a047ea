-- What is done of each member, where a step over whole bags is put together from groups.
use Rattle.std.specs.Prelude.{pos, List, ◌++◌, filter_map, option_map}
use Rattle.std.specs.List.{flat_map}
use Rattle.std.specs.Option.{option_to_list}
use Rattle.flume_value.specs.declared.value.Value.{Value}
use Rattle.flume_value.specs.declared.value.Value.TheVariants as value
use Rattle.flume_value.specs.Parts.{left_of, right_of}
use Rattle.bag_groups.specs.Pairs.{pair, parts_of}
use Rattle.bag_groups.specs.Combining.{group_of}
use Rattle.bag_steps.specs.Joins.{sides}

-- ---- count: each member is a key, and an int 1 under it

abbrev pub pair_with_one : Value → Value
pair_with_one v = pair v (value.Int (pos 1))

-- ---- top: all members are under one key

abbrev pub pair_under_zero : Value → Value
pair_under_zero v = pair (value.Int (pos 0)) v

-- the members of the list of a group; what is no group has none
abbrev pub listed_values : Value → List Value
listed_values p = flat_map (λ group. group.1) (option_to_list (group_of p))

-- ---- join: each value is marked with its side

-- the pair with its value marked as one of the left; what is no pair is left out
abbrev pub marked_left : Value → List Value
marked_left p = option_to_list (option_map (λ it. pair it.0 (value.Left it.1)) (parts_of p))

-- the pair with its value marked as one of the right; what is no pair is left out
abbrev pub marked_right : Value → List Value
marked_right p = option_to_list (option_map (λ it. pair it.0 (value.Right it.1)) (parts_of p))

-- the pairs of both sides together, marked
abbrev pub marked_pairs : List Value → List Value → List Value
marked_pairs left right = flat_map marked_left left ++ flat_map marked_right right

-- the values marked as ones of the left, in order, and those of the right
abbrev pub lefts : List Value → List Value
lefts values = filter_map left_of values

abbrev pub rights : List Value → List Value
rights values = filter_map right_of values

-- the row of a group of marked values; what is no group has none
abbrev pub split_sides : Value → List Value
split_sides p =
    option_to_list
    (option_map (λ group. pair group.0 (sides (lefts group.1) (rights group.1))) (group_of p))
