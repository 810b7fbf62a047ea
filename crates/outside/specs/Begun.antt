-- Files that a shelf has begun: each is ended, or left begun.
use Rattle.std.specs.Prelude.{ℕ, Bool, false, List, [], ◌∷◌, if◌then◌else◌}
use Rattle.outside.specs.Cause.{raised}
use Rattle.outside.specs.declared.file.File.{File}

-- how many files were left begun, after a begin: one more where a file is begun that was not ended
abbrev pub left_at_begin : Bool → ℕ → ℕ
left_at_begin begun left = if begun then raised left else left

-- the same after each of these was begun in order, and ended before the next
abbrev pub left_after : List File → Bool → ℕ → ℕ
left_after [] begun left = left
left_after (file ∷ files) begun left = left_at_begin begun left

-- whether a file is begun then
abbrev pub begun_after : List File → Bool → Bool
begun_after [] begun = begun
begun_after (file ∷ files) begun = false
