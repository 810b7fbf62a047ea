-- How an evaluation stands before the node of a number.
use Rattle.std.specs.Prelude.{◌≡◌, ℕ, List, ◌++◌, Option, length}
use Rattle.std.specs.List.{AllZip, filter, flat_map}
use Rattle.flume_value.specs.declared.value.Value.{Value}
use Rattle.flume_collection.specs.Collection.{Collection}
use Rattle.flume_collection.specs.Traps.{trap_set}
use Rattle.flume_collection.specs.declared.trap.Trap.{Trap}
use Rattle.script_laws.specs.of_written_types.Named.{Named}
use Rattle.script_program.specs.Script.{Node, Script}
use Rattle.script_laws.specs.WellFormed.{AllFit}
use Rattle.direct_meaning.specs.Direct.{collections, meaning, traps_of}
use Rattle.direct_meaning.specs.Inputs.{AreLists, Sourced, sourced_by}
use Rattle.direct_meaning.specs.Made.{AreMade}
use Rattle.script_program.specs.Needed.{is_needed, collections_numbered}
use Rattle.direct_meaning.specs.declared.kept.Kept.{Kept}
use Rattle.direct_meaning.specs.inner.Kept.{KeepsAny}

-- the sources that are needed among nodes from a number on
abbrev pub sourced_from : Script → ℕ → Named Node → List Sourced
sourced_from script number nodes =
    flat_map (λ it. sourced_by it.1.1.made it.1.1.type)
    (filter (λ it. is_needed script it.0) (collections_numbered number nodes))

-- Before the node of this number, with these rows to come, this kept, and these traps found: the
-- nodes before it have made a table, and going on from there comes to the script's meaning.
pub record Stands (script : Script) (inputs : List (List Value)) (number : ℕ)
    (left : List (List Value)) (kept : List (Option Kept)) (traps : List Trap) : Type 0 where
  pub before : Named Node
  pub rest : Named Node
  pub split : before ++ rest ≡ script.nodes
  pub count : length before ≡ number
  pub fit : AllFit script.functions before rest
  pub table : List (Option Collection)
  pub are : AreMade script before table
  pub ahead : collections script rest left table ≡ meaning script inputs
  pub rows : AreLists (sourced_from script number rest) left
  pub keeps : AllZip KeepsAny kept table
  pub found : traps_of table ≡ trap_set traps
