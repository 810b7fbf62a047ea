-- What the names of a let stand for behind its repeat, place by place.
use Rattle.std.specs.Prelude.{ℕ, List, Option, Some, None, slice_get}
use Rattle.script_program.specs.declared.made.Standing.{Standing}
use Rattle.script_program.specs.declared.made.Standing.TheVariants.{Collection, Hidden}

abbrev pub standing_of : Option ℕ → Standing
standing_of (Some number) = Collection number
standing_of None = Hidden

-- the name at a place, where the first names stand for the collections of these numbers
abbrev pub standing_at : List ℕ → ℕ → Standing
standing_at numbers place = standing_of (slice_get numbers place)
