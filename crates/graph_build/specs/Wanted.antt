-- What is built of a script: its needed collections.
use Rattle.std.specs.Prelude.{ℕ, Bool, List, [], ◌∷◌, Option, Some, None, if◌then◌else◌, is_some, slice_index_or}
use Rattle.std.proofs.Common.{suc}
use Rattle.script_program.specs.of_written_types.Named.{Named}
use Rattle.script_program.specs.declared.made.Made.{Made}
use Rattle.script_program.specs.Needed.{is_needed}
use Rattle.script_program.specs.Script.{Node, Script}

-- how each collection is made, from that number on, where it is needed
abbrev pub wanted_from : Script → ℕ → Named Node → List (Option Made)
wanted_from script number [] = []
wanted_from script number (entry ∷ nodes) =
    (if is_needed script number then Some entry.1.made else None)
    ∷ wanted_from script (suc number) nodes

-- how each collection of a script is made, where it is needed
abbrev pub wanted : Script → List (Option Made)
wanted script = wanted_from script 0 script.nodes

-- how the collection of that number is made, where it is needed
abbrev pub wanted_at : Script → ℕ → Option Made
wanted_at script number = slice_index_or (wanted script) number None

-- whether there is a collection of that number that is needed
abbrev pub needed_at : Script → ℕ → Bool
needed_at script number = is_some (wanted_at script number)
