-- The values that hold a number of 128 bits.
use Rattle.std.specs.Prelude.{IsSome, List, [], ◌∷◌}
use Rattle.flume_value.specs.declared.value.Value.{Value, Value-F, out-Value}
use Rattle.flume_value.specs.Parts.{wide_of}

-- the value is a wide number
abbrev pub IsWide : Value → Type 0
IsWide v = IsSome (wide_of v)

abbrev AreTwo : List Value → Type 0
AreTwo (s ∷ c ∷ []) = IsWide s × IsWide c
AreTwo _ = ⊥

abbrev IsSumAndCountAt : Value-F Value → Type 0
IsSumAndCountAt (Value-F.Rec vs) = AreTwo vs
IsSumAndCountAt _ = ⊥

-- the value is a record of two such numbers
abbrev pub IsSumAndCount : Value → Type 0
IsSumAndCount v = IsSumAndCountAt (out-Value v)
