-- At which collections of a script nodes are built, and of which: at each by itself, where it is
-- needed, but at the names of a call first of its kept names, and then of the call, where one of
-- its names is needed that is not kept. Further names of a call have no nodes of their own.
use Rattle.std.specs.Prelude.{ℕ, ◌-◌, List, [], ◌∷◌, Option, Some, None, if◌then◌else◌, option_and_then, slice_get, slice_index_or}
use Rattle.std.proofs.Common.{suc}
use Rattle.std.specs.Option.{option_map}
use Rattle.script_program.specs.of_written_types.Named.{Named}
use Rattle.script_program.specs.declared.made.Emitted.{Emitted}
use Rattle.script_program.specs.declared.made.Made.{Made}
use Rattle.script_program.specs.Script.{Node, Script}
use Rattle.graph_build.specs.Calls.{call_built, emitted_as}
use Rattle.graph_build.specs.Wanted.{needed_at, wanted_at}

-- a collection of which nodes are built: its number, and how it is made. A call is built as the
-- first name that it emits.
pub record Built : Type 0 where
  pub number : ℕ
  pub made : Made

-- the collection that is built at the name of that number, by which output of a call it is
abbrev pub built_as : Script → ℕ → Option Emitted → Option ℕ
built_as script number None = if needed_at script number then Some number else None
built_as script number (Some it) =
    slice_get (call_built script (number - it.output) it.function) it.output

-- the same, with how it is made
abbrev pub as_made : Script → ℕ → Option Built
as_made script number =
    option_map (λ how. record { number = number; made = how }) (wanted_at script number)

abbrev pub built_here : Script → ℕ → Made → Option Built
built_here script number how =
    option_and_then (as_made script) (built_as script number (emitted_as how))

-- what is built at each collection, from that number on
abbrev pub built_from : Script → ℕ → Named Node → List (Option Built)
built_from script number [] = []
built_from script number (entry ∷ nodes) =
    built_here script number entry.1.made ∷ built_from script (suc number) nodes

abbrev pub built : Script → List (Option Built)
built script = built_from script 0 script.nodes

-- what is built at the collection of that number
abbrev pub built_at : Script → ℕ → Option Built
built_at script number = slice_index_or (built script) number None
