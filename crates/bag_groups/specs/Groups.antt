-- The groups of a bag of pairs: for each key the bag of its values.
use Rattle.std.specs.Prelude.{List, [], ◌∷◌, map, filter, not}
use Rattle.flume_value.specs.declared.value.Value.{Value}
use Rattle.flume_value.specs.declared.value.Value.TheVariants as value
use Rattle.flume_value.specs.Bag.{bag_of}
use Rattle.flume_value.specs.Equality.{value_eq}
use Rattle.bag_groups.specs.Pairs.{pair, pairs_of}

-- each member once, where it stands first
abbrev pub distinct : List Value → List Value
distinct [] = []
distinct (v ∷ vs) = v ∷ filter (λ w. not (value_eq w v)) (distinct vs)

-- the keys of the pairs, each once, ascending
abbrev pub keys_of : List (Value × Value) → List Value
keys_of pairs = distinct (bag_of (map (λ p. p.0) pairs))

-- the values of a key, ascending, as often as the pairs have them
abbrev pub values_of : Value → List (Value × Value) → List Value
values_of k pairs = bag_of (map (λ p. p.1) (filter (λ p. value_eq p.0 k) pairs))

-- one pair for each key: the key and the list of its values
abbrev pub grouped_pairs : List (Value × Value) → List Value
grouped_pairs pairs = map (λ k. pair k (value.List (values_of k pairs))) (keys_of pairs)

-- the groups of a table, whose members are pairs; a value that is no pair is in no group
abbrev pub grouped : List Value → List Value
grouped table = grouped_pairs (pairs_of table)
