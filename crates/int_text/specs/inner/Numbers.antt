-- The numbers that are read digit by digit.
use Rattle.std.specs.Prelude.{ℕ, ◌&&◌, ◌^◌, List, Option, Some, None, if◌then◌else◌, nat_lt}
use Rattle.std.specs.Str.{all_ascii_digits}
use Rattle.int_text.specs.Ints.{is_numeral, number_of, number_on}

-- the number whose digits are those of `above`, and then these, if it is below 10 ^ 19
abbrev pub short_on : ℕ → List ℕ → Option ℕ
short_on above digits =
    if all_ascii_digits digits && nat_lt (number_on above digits) (10 ^ 19)
    then Some (number_on above digits) else None

-- the number that one digit or more write, if it is below 10 ^ 19
abbrev pub short_number : List ℕ → Option ℕ
short_number digits =
    if is_numeral digits && nat_lt (number_of digits) (10 ^ 19)
    then Some (number_of digits) else None
