-- What a collection of a script rests on.
use Rattle.std.specs.Prelude.{ℕ, Bool, List, [], ◌∷◌, map}
use Rattle.std.specs.List.{filter}
use Rattle.script_program.specs.Needed.{holds_number, made_of, collections_numbered, read_from}
use Rattle.script_program.specs.Script.{Node, Script}

-- whether the collection of the first number rests on the one of the other: it is that one, or is
-- made from what rests on it
abbrev pub rests : Script → ℕ → ℕ → Bool
rests script asked number = holds_number (read_from (asked ∷ []) 0 (made_of script)) number

-- the collections that it rests on under their names, with their numbers, in order
abbrev pub rested : Script → ℕ → List (ℕ × (List ℕ × Node))
rested script asked = filter (λ it. rests script asked it.0) (collections_numbered 0 script.nodes)

-- their names
abbrev pub rested_names : Script → ℕ → List (List ℕ)
rested_names script asked = map (λ it. it.1.0) (rested script asked)
