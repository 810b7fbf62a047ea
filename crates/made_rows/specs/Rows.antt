-- A made input: its numbers, its rows and its text.
use Rattle.std.specs.Prelude.{ℕ, zero, suc, ◌+◌, ◌%◌, pos, List, [], ◌∷◌, ◌++◌, codes, decimal, map, sum}
use Rattle.std.specs.List.{flat_map}
use Rattle.flume_value.specs.declared.value.Value.{Value}
use Rattle.flume_value.specs.declared.value.Value.TheVariants as value

-- the most that the number before the first row's may be, and the most rows that there are
abbrev pub most_made : ℕ
most_made = 1000000

-- so many numbers, one after the other, from this one on
abbrev pub numbers_from : ℕ → ℕ → List ℕ
numbers_from first zero = []
numbers_from first (suc count) = first ∷ numbers_from (suc first) count

-- the numbers of the rows: so many, from the one behind `start` on
abbrev pub made_numbers : ℕ → ℕ → List ℕ
made_numbers start rows = numbers_from (suc start) rows

-- the key of a number is its last decimal digit
abbrev pub last_digit : ℕ → ℕ
last_digit number = number % 10

-- the row of a number: its key, and the number itself
abbrev pub made_row : ℕ → Value
made_row number = value.Rec (value.Int (pos (last_digit number)) ∷ value.Int (pos number) ∷ [])

-- the rows
abbrev pub made_rows : ℕ → ℕ → List Value
made_rows start rows = map made_row (made_numbers start rows)

-- two numbers on a line
abbrev pub pair_line : ℕ → ℕ → List ℕ
pair_line key number = decimal key ++ (codes "," ++ (decimal number ++ codes "\n"))

-- the line of a number
abbrev pub number_line : ℕ → List ℕ
number_line number = pair_line (last_digit number) number

-- the text of the file: the names of its columns, and a line for each number
abbrev pub made_text : ℕ → ℕ → List ℕ
made_text start rows = codes "k,v\n" ++ flat_map number_line (made_numbers start rows)

-- the sum of the numbers
abbrev pub total_of_numbers : List ℕ → ℕ
total_of_numbers numbers = sum numbers
