-- The output to which an `emit` emits.
use Rattle.std.specs.Prelude.{ℕ, ◌-◌, Option, Some, None, List}
use Rattle.std.specs.Option.{option_map}
use Rattle.expression_check.specs.Numbers.{number_within}

-- its number, from 0, among so many outputs: the first where none is written, and else the one
-- with the number that digits write, counted from 1
abbrev pub output_written : ℕ → Option (List ℕ) → Option ℕ
output_written outputs None = Some 0
output_written outputs (Some digits) = option_map (λ n. n - 1) (number_within 1 outputs digits)
