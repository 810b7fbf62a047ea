-- What the script of the sums means over the rows of a made input.
use Rattle.std.specs.Prelude.{◌≡◌, ℕ, List, [], ◌∷◌, Option, Some}
use Rattle.std.specs.Option.{option_map}
use Rattle.direct_meaning.specs.Direct.{made_at, meaning, traps_of}
use Rattle.flume_collection.specs.Collection.{Collection}
use Rattle.made_rows.specs.Keyed.{sums_of}
use Rattle.made_rows.specs.Rows.{made_numbers, made_rows}
use Rattle.made_rows.specs.Sums.{sums_script}

-- the number of the collection that the script's output reads
abbrev pub sums_number : ℕ
sums_number = 3

-- no call traps, and the collection that is written has for each key the sum of its numbers
pub record MeansSums (start rows : ℕ) : Type 0 where
  pub table : List (Option Collection)
  pub means : meaning sums_script (made_rows start rows ∷ []) ≡ Some table
  pub through : traps_of table ≡ []
  pub sums : option_map (λ c. c.bag) (made_at table sums_number)
      ≡ Some (sums_of (made_numbers start rows))
