-- What is kept in a value, read off its form.
use Rattle.std.specs.Prelude.{ℕ, ◌^◌, ℤ, pos, negsuc, List, [], ◌∷◌, Option, Some, None, nat_lt, option_and_then, if◌then◌else◌}
use Rattle.std.specs.Option.{option_map}
use Rattle.flume_value.specs.declared.value.Value.{Value}
use Rattle.flume_value.specs.Parts.{fields_of, members_of, text_of, wide_of}
use Rattle.saved_results.specs.declared.saved.Saved.{Saved}
use Rattle.saved_results.specs.declared.saved.Size.{Size}

-- the two fields of a record that has two
abbrev pub two_among : List Value → Option (Value × Value)
two_among (first ∷ (second ∷ [])) = Some (first, second)
two_among _ = None

abbrev pub two_of : Value → Option (Value × Value)
two_of value = option_and_then two_among (fields_of value)

-- a number, where 64 bits without a sign hold it
abbrev pub natural_of : ℤ → Option ℕ
natural_of (pos n) = if nat_lt n (2 ^ 64) then Some n else None
natural_of (negsuc n) = None

abbrev pub sized : List ℕ → Option ℕ → Option Size
sized name count = option_map (λ members. record { name = name; members = members }) count

-- a name and a number
abbrev pub size_from : Value × Value → Option Size
size_from both =
    option_and_then (λ name. sized name (option_and_then natural_of (wide_of both.1)))
    (text_of both.0)

abbrev pub size_in_value : Value → Option Size
size_in_value value = option_and_then size_from (two_of value)

abbrev pub sizes_in_values : List Value → Option (List Size)
sizes_in_values [] = Some []
sizes_in_values (value ∷ values) =
    option_and_then (λ size. option_map (λ sizes. size ∷ sizes) (sizes_in_values values))
    (size_in_value value)

abbrev pub with_sizes : List Value → Option (List Size) → Option Saved
with_sizes members sizes =
    option_map (λ all. record { members = members; sizes = all }) sizes

-- two lists: members, and sizes
abbrev pub saved_from : Value × Value → Option Saved
saved_from both =
    option_and_then (λ members. option_and_then (λ sizes. with_sizes members
    (sizes_in_values sizes))
    (members_of both.1)) (members_of both.0)

abbrev pub saved_of : Value → Option Saved
saved_of value = option_and_then saved_from (two_of value)
