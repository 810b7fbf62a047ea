-- What was found of the collections that are asked for, as it is taken apart.
use Rattle.std.specs.Prelude.{◌≡◌, ℕ, List, [], ◌∷◌, Option, Some, None, map, slice_get}
use Rattle.std.specs.Option.{option_flatten}
use Rattle.kept_results.specs.Sizes.{sizes_kept}
use Rattle.saved_results.specs.declared.saved.Saved.{Saved}
use Rattle.script_program.specs.Script.{Script}
use Rattle.cached_course.specs.declared.found.Found.{Found}

-- what was found of one, beside its number
abbrev pub found_as : ℕ → Option Saved → List (ℕ × Saved)
found_as number None = []
found_as number (Some saved) = (number, saved) ∷ []

-- the same of the next
abbrev pub next_of : ℕ → List (Option Saved) → List (ℕ × Saved)
next_of number left = found_as number (option_flatten (slice_get left 0))

-- these are the numbers, the members and the sizes of what was found
pub record IsApart (script : Script) (found : List (ℕ × Saved)) (it : Found) : Type 0 where
  pub numbers : it.numbers.items ≡ map (λ one. one.0) found
  pub members : it.members.items ≡ map (λ one. one.1.members) found
  pub known : it.known.items ≡ sizes_kept script found
