-- A number of each key: the place of its variant, and behind it the first 61 bits of an int or of a
-- text. So it never contradicts the order of values.
use Rattle.std.specs.Prelude.{ℕ, zero, suc, ◌+◌, ◌-◌, ◌*◌, ◌/◌, ◌^◌, ◌<◌, ℤ, pos, negsuc, FitsSigned, List, [], ◌∷◌}
use Rattle.std.specs.Int.{w64}
use Rattle.std.specs.List.{AllByRecursion}
use Rattle.flume_value.specs.declared.value.Value.{Value, Value-F, out-Value}
use Rattle.flume_value.specs.Order.{ordinal}

-- how far an int of 64 bits is above the least one
abbrev pub above_least : ℤ → ℕ
above_least (pos n) = 2 ^ 63 + n
above_least (negsuc n) = 2 ^ 63 - 1 - n

-- the first n bytes of a text as one number, the highest first, with zeros behind its end
abbrev pub first_bytes : ℕ → List ℕ → ℕ
first_bytes zero text = 0
first_bytes (suc n) [] = 0
first_bytes (suc n) (byte ∷ text) = byte * 256 ^ n + first_bytes n text

-- the first 61 bits of an int or of a text; no other value has any
abbrev pub first_bits : {X : Type 0} → Value-F X → ℕ
first_bits (Value-F.Int n) = above_least n / 8
first_bits (Value-F.Text text) = first_bytes 8 text / 8
first_bits _ = 0

abbrev pub key_number : Value → ℕ
key_number key = ordinal (out-Value key) * 2 ^ 61 + first_bits (out-Value key)

-- an int is of 64 bits, and a text is of bytes
abbrev pub IsHeldLayer : {X : Type 0} → Value-F X → Type 0
IsHeldLayer (Value-F.Int n) = FitsSigned w64 n
IsHeldLayer (Value-F.Text text) = AllByRecursion (λ byte. byte < 256) text
IsHeldLayer _ = Unit {0}

-- a program can hold the value, as far as its top tells
abbrev pub IsHeldAtTop : Value → Type 0
IsHeldAtTop value = IsHeldLayer (out-Value value)
