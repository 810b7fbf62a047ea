-- Which collections of a script are asked for: those that its outputs read.
use Rattle.std.specs.Prelude.{◌==◌, ℕ, List, [], ◌∷◌, Option, Some, None, if◌then◌else◌}
use Rattle.std.specs.List.{flat_map}
use Rattle.written_types.specs.Named.{Named}
use Rattle.script_program.specs.declared.made.Output.{Output}
use Rattle.script_program.specs.Needed.{collections_numbered}
use Rattle.script_program.specs.Script.{Script}

-- the name under which the first of these outputs reads the collection of that number
abbrev pub name_read : Named Output → ℕ → Option (List ℕ)
name_read [] number = None
name_read (entry ∷ outputs) number =
    if entry.1.reads == number then Some entry.1.name else name_read outputs number

abbrev pub asked_as : ℕ → Option (List ℕ) → List (ℕ × List ℕ)
asked_as number None = []
asked_as number (Some name) = (number, name) ∷ []

-- their numbers, in order of the script, each once, with the name under which it is read
abbrev pub asked_nodes : Script → List (ℕ × List ℕ)
asked_nodes script =
    flat_map (λ it. asked_as it.0 (name_read script.outputs it.0))
    (collections_numbered 0 script.nodes)
