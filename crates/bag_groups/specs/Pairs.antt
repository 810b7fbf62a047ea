-- A pair, a member of a table: the record of its key and its value.
use Rattle.std.specs.Prelude.{List, [], ◌∷◌, Option, Some, None, IsSome, map, option_map, filter_map}
use Rattle.flume_value.specs.declared.value.Value.{Value, Value-F, out-Value}
use Rattle.flume_value.specs.declared.value.Value.TheVariants as value

abbrev pub pair : Value → Value → Value
pair k v = value.Rec (k ∷ v ∷ [])

-- the key and the value of a pair; no other value has them
abbrev pub parts_at : Value-F Value → Option (Value × Value)
parts_at (Value-F.Rec (k ∷ v ∷ [])) = Some (k, v)
parts_at _ = None

abbrev pub parts_of : Value → Option (Value × Value)
parts_of p = parts_at (out-Value p)

abbrev pub IsPair : Value → Type 0
IsPair p = IsSome (parts_of p)

-- the key of a pair
abbrev pub key_of : Value → Option Value
key_of p = option_map (λ parts. parts.0) (parts_of p)

-- the value of a pair
abbrev pub value_of : Value → Option Value
value_of p = option_map (λ parts. parts.1) (parts_of p)

-- the pairs among the values, in order
abbrev pub pairs_of : List Value → List (Value × Value)
pairs_of values = filter_map parts_of values

-- the values of the pairs, in order
abbrev pub held_by : List Value → List Value
held_by pairs = map (λ parts. parts.1) (pairs_of pairs)
