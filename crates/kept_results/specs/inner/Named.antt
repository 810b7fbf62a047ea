-- Whether sizes stand under names.
use Rattle.std.specs.Prelude.{◌&&◌, ℕ, Bool, true, false, List, [], ◌∷◌}
use Rattle.std.specs.Str.{bytes_eq}
use Rattle.saved_results.specs.declared.saved.Size.{Size}

-- one after the other
abbrev pub are_named : List Size → List (List ℕ) → Bool
are_named [] [] = true
are_named [] (name ∷ names) = false
are_named (size ∷ sizes) [] = false
are_named (size ∷ sizes) (name ∷ names) = bytes_eq size.name name && are_named sizes names
