-- The ints that texts show.
use Rattle.std.specs.Prelude.{ℕ, ℤ, pos, neg_ℤ, Bool, false, ◌&&◌, ◌==◌, ◌+◌, ◌*◌, ◌-◌, ◌^◌, List, [], ◌∷◌, Option, Some, None, if◌then◌else◌, nat_lt, nat_le}
use Rattle.std.specs.Str.{all_ascii_digits}

-- a minus sign
abbrev pub minus : ℕ
minus = 45

-- one decimal digit or more, and nothing else
abbrev pub is_numeral : List ℕ → Bool
is_numeral [] = false
is_numeral (digit ∷ rest) = all_ascii_digits (digit ∷ rest)

-- the number whose digits are those of `above`, and then these
unfoldable pub number_on : ℕ → List ℕ → ℕ
number_on above [] = above
number_on above (digit ∷ rest) = number_on (above * 10 + (digit - 48)) rest

-- the number that digits write; leading zeros change nothing
abbrev pub number_of : List ℕ → ℕ
number_of digits = number_on 0 digits

-- the int that digits write, if 64 bits hold it
abbrev pub int_from : List ℕ → Option ℤ
int_from digits =
    if is_numeral digits && nat_lt (number_of digits) (2 ^ 63)
    then Some (pos (number_of digits)) else None

-- the same of digits below a minus sign
abbrev pub int_below : List ℕ → Option ℤ
int_below digits =
    if is_numeral digits && nat_le (number_of digits) (2 ^ 63)
    then Some (neg_ℤ (pos (number_of digits))) else None

-- the int of a text: an optional minus sign and one or more decimal digits, of a value that 64 bits
-- hold
abbrev pub int_of_text : List ℕ → Option ℤ
int_of_text [] = None
int_of_text (byte ∷ rest) = if byte == minus then int_below rest else int_from (byte ∷ rest)
