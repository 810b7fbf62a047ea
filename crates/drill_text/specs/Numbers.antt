-- The numbers that texts spell.
use Rattle.std.specs.Prelude.{ℕ, Bool, false, not, ◌&&◌, ◌==◌, List, [], ◌∷◌, length, Option, Some, None, if◌then◌else◌, nat_le, option_and_then}
use Rattle.int_text.specs.Ints.{is_numeral, number_of}

-- the code of the digit `0`
abbrev pub zero_digit : ℕ
zero_digit = 48

-- a zero stands before other digits
abbrev pub has_leading_zero : List ℕ → Bool
has_leading_zero [] = false
has_leading_zero (first ∷ []) = false
has_leading_zero (first ∷ next ∷ rest) = first == zero_digit

-- the most digits of a number
abbrev pub most_digits : ℕ
most_digits = 9

-- the greatest number of so many digits
abbrev pub most_number : ℕ
most_number = 999999999

-- decimal digits, at least one and not too many, without leading zeros
abbrev pub is_number : List ℕ → Bool
is_number text =
    (is_numeral text && not (has_leading_zero text)) && nat_le (length text) most_digits

-- the number that a text spells
abbrev pub number_in : List ℕ → Option ℕ
number_in text = if is_number text then Some (number_of text) else None

-- a number that is no less than 1 and no more than a limit
abbrev pub is_up_to : ℕ → ℕ → Bool
is_up_to limit n = nat_le 1 n && nat_le n limit

-- the number from 1 up to a limit that a text spells
abbrev pub number_up_to : ℕ → List ℕ → Option ℕ
number_up_to limit text =
    option_and_then (λ n. if is_up_to limit n then Some n else None) (number_in text)
