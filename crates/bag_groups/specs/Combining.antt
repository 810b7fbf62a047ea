-- Each pair of a key and a list with its list combined, by a function of bags that may trap.
use Rattle.std.specs.Prelude.{List, [], ◌∷◌, Option, Result, Ok, Err, option_map, filter_map}
use Rattle.std.specs.List.{flat_map}
use Rattle.std.specs.Option.{option_and_then}
use Rattle.flume_value.specs.declared.fault.Kind.{Kind}
use Rattle.flume_value.specs.declared.value.Value.{Value}
use Rattle.flume_value.specs.Bag.{bag_of}
use Rattle.flume_value.specs.Parts.{members_of}
use Rattle.bag_groups.specs.Pairs.{pair, parts_of}

-- the key and the members of the list of a group, which is a pair of a key and a list; no other
-- value has them
abbrev pub group_of : Value → Option (Value × List Value)
group_of p =
    option_and_then (λ parts. option_map (λ list. (parts.0, list)) (members_of parts.1))
    (parts_of p)

-- the groups among the values, in order
abbrev pub groups_in : List Value → List (Value × List Value)
groups_in values = filter_map group_of values

-- the pair of the key and what its list came to, if that is a value
abbrev pub combined_pair : Value → Result Value Kind → List Value
combined_pair k (Ok v) = pair k v ∷ []
combined_pair k (Err kind) = []

-- the kind and the key, if it is a trap
abbrev pub trapped_key : Value → Result Value Kind → List (Kind × Value)
trapped_key k (Ok v) = []
trapped_key k (Err kind) = (kind, k) ∷ []

-- the bag of the groups that do not trap, each with its list, as a bag, combined by f
abbrev pub combined_each : (List Value → Result Value Kind) → List Value → List Value
combined_each f table =
    bag_of (flat_map (λ group. combined_pair group.0 (f (bag_of group.1))) (groups_in table))

-- the traps of the groups that trap: for each the kind and the key
abbrev pub traps_of_each : (List Value → Result Value Kind) → List Value → List (Kind × Value)
traps_of_each f table =
    flat_map (λ group. trapped_key group.0 (f (bag_of group.1))) (groups_in table)
