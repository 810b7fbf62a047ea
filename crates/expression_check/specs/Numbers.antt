-- Numbers within limits, by their digits.
use Rattle.std.specs.Prelude.{ℕ, ℤ, pos, ◌&&◌, nat_le, List, Option, Some, None, option_and_then, if◌then◌else◌}
use Rattle.int_text.specs.Ints.{int_of_text}

abbrev pub within : ℕ → ℕ → ℤ → Option ℕ
within low high (pos n) = if nat_le low n && nat_le n high then Some n else None
within low high _ = None

-- the number that digits write, where it lies from `low` to `high`
abbrev pub number_within : ℕ → ℕ → List ℕ → Option ℕ
number_within low high digits = option_and_then (within low high) (int_of_text digits)
