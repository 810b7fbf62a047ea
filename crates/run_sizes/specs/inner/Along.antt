-- The sizes of a script's collections, one after another, by their numbers.
use Rattle.std.specs.Prelude.{ℕ, ◌+◌, ◌-◌, ◌^◌, List, [], ◌∷◌, ◌++◌, Option, Some, None, length, min, slice_get, slice_index, unwrap_or, if◌then◌else◌}
use Rattle.std.specs.Option.{option_flatten}
use Rattle.script_program.specs.Needed.{is_needed}
use Rattle.script_program.specs.Script.{Node, Script}
use Rattle.script_program.specs.declared.made.Made.{Made}
use Rattle.script_program.specs.declared.made.Made.TheVariants as made
use Rattle.written_types.specs.Named.{Named}

-- as far as 64 bits count
abbrev pub kept : ℕ → ℕ
kept n = min n (2 ^ 64 - 1)

-- how many members the source of that place has, where lists have so many, and these are the
-- numbers of its lists
abbrev pub list_count : List ℕ → List ℕ → ℕ → ℕ
list_count members numbers source =
    kept (unwrap_or (slice_get members (slice_index numbers source)) 0)

-- what was counted for a number
abbrev pub count_at : List ℕ → ℕ → ℕ
count_at counts number = unwrap_or (slice_get counts number) 0

-- the size of the collection of a number, where it is made
abbrev pub size_at : List (Option ℕ) → ℕ → ℕ
size_at sizes number = unwrap_or (option_flatten (slice_get sizes number)) 0

abbrev pub together : List (Option ℕ) → List ℕ → ℕ
together sizes [] = 0
together sizes (number ∷ numbers) = size_at sizes number + together sizes numbers

module _ (members numbers counts : List ℕ) where
  -- the size of the collection of a number that is made so, where the next source has that place
  abbrev pub sized_as : ℕ → Made → ℕ → List (Option ℕ) → ℕ
  sized_as number (made.Input file columns) source sizes = list_count members numbers source
  sized_as number (made.Saved is_object call) source sizes = list_count members numbers source
  sized_as number (made.Flatten sources) source sizes = kept (together sizes sources)
  sized_as number _ source sizes = count_at counts number

-- the place of the next source, behind a collection that is made so
abbrev pub behind : Made → ℕ → ℕ
behind (made.Input file columns) source = source + 1
behind (made.Saved is_object call) source = source + 1
behind _ source = source

module _ (script : Script) (members numbers counts : List ℕ) where
  -- of the nodes behind those of these sizes, of which so many are sources that are needed
  abbrev pub sizes_along : Named Node → ℕ → List (Option ℕ) → List (Option ℕ)
  sizes_along [] source sizes = sizes
  sizes_along (entry ∷ nodes) source sizes =
      if is_needed script (length sizes)
      then sizes_along nodes (behind entry.1.made source)
      (sizes
      ++ Some (sized_as members numbers counts (length sizes) entry.1.made source sizes) ∷ [])
      else sizes_along nodes source (sizes ++ None ∷ [])

-- the name and the size of a collection, where it is made
abbrev pub size_line : List ℕ → Option ℕ → List (List ℕ × ℕ)
size_line name None = []
size_line name (Some size) = (name, size) ∷ []

-- the name and the size of each collection that is made, in order of these nodes
abbrev pub named_sizes : Named Node → List (Option ℕ) → List (List ℕ × ℕ)
named_sizes [] sizes = []
named_sizes (entry ∷ nodes) [] = []
named_sizes (entry ∷ nodes) (size ∷ sizes) = size_line entry.0 size ++ named_sizes nodes sizes
