-- Two bags of pairs joined: for each key of either side the values of both sides.
use Rattle.std.specs.Prelude.{List, [], ◌∷◌, ◌++◌, map}
use Rattle.flume_value.specs.declared.value.Value.{Value}
use Rattle.flume_value.specs.declared.value.Value.TheVariants as value
use Rattle.keyed_steps.specs.of_bag_groups.Pairs.{pair, pairs_of}
use Rattle.keyed_steps.specs.of_bag_groups.Groups.{keys_of, values_of}

-- the record of the list of the left side and that of the right side
abbrev pub sides : List Value → List Value → Value
sides lefts rights = value.Rec (value.List lefts ∷ value.List rights ∷ [])

-- for each key of either side, ascending, the pair of it and the values that it has on both
-- sides, ascending, as often as the side has them; a side without the key has none
abbrev pub joined : List Value → List Value → List Value
joined left right =
    map (λ k. pair k (sides (values_of k (pairs_of left)) (values_of k (pairs_of right))))
    (keys_of (pairs_of left ++ pairs_of right))
