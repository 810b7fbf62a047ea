-- What combiners read in the values that they take. The numbers, truths and lists of other values
-- are never asked for: `Suits` and `HasShape` leave no other value.
use Rattle.std.specs.Prelude.{ℤ, pos, Bool, false, List, [], ◌∷◌, IsSome, unwrap_or}
use Rattle.flume_value.specs.declared.value.Value.{Value}
use Rattle.flume_value.specs.Parts.{int_of, bool_of, wide_of, members_of, fields_of}

-- the value is an int
abbrev pub IsInt : Value → Type 0
IsInt v = IsSome (int_of v)

-- the value is a bool
abbrev pub IsBool : Value → Type 0
IsBool v = IsSome (bool_of v)

-- the value is a list
abbrev pub IsList : Value → Type 0
IsList v = IsSome (members_of v)

-- the number of an int, or 0
abbrev pub int_or_zero : Value → ℤ
int_or_zero v = unwrap_or (int_of v) (pos 0)

-- whether the value is the bool true
abbrev pub truth_of : Value → Bool
truth_of v = unwrap_or (bool_of v) false

-- the number of a wide number, or 0
abbrev pub wide_or_zero : Value → ℤ
wide_or_zero v = unwrap_or (wide_of v) (pos 0)

-- the first number of a list of wide numbers, or 0
abbrev pub first_wide : List Value → ℤ
first_wide [] = pos 0
first_wide (v ∷ vs) = wide_or_zero v

-- the second, or 0
abbrev pub second_wide : List Value → ℤ
second_wide [] = pos 0
second_wide (v ∷ vs) = first_wide vs

-- the sum of a sum beside a count
abbrev pub sum_in : Value → ℤ
sum_in v = first_wide (unwrap_or (fields_of v) [])

-- and the count
abbrev pub count_in : Value → ℤ
count_in v = second_wide (unwrap_or (fields_of v) [])
