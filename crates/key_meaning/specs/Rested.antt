-- How many members a collection has, and what it rests on.
use Rattle.std.specs.Prelude.{ℕ, List, [], ◌∷◌, Option, Some, None}
use Rattle.std.specs.List.{flat_map}
use Rattle.flume_collection.specs.Collection.{Collection}
use Rattle.script_program.specs.Rested.{rested}
use Rattle.script_program.specs.Script.{Script}
use Rattle.direct_meaning.specs.Direct.{made_at, size_of}

abbrev pub name_sized : List ℕ → Option Collection → List (List ℕ × ℕ)
name_sized name None = []
name_sized name (Some c) = (name, size_of c) ∷ []

-- the name and the size of each that is made, in order
abbrev pub rested_sizes : Script → List (Option Collection) → ℕ → List (List ℕ × ℕ)
rested_sizes script made asked =
    flat_map (λ it. name_sized it.1.0 (made_at made it.0)) (rested script asked)
