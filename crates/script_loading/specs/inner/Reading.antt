-- What is read up to a node, and what a refusal is answered with.
use Rattle.std.specs.Prelude.{◌≡◌, ℕ, List, [], ◌∷◌, ◌++◌, drop, if◌then◌else◌, Option, Some, slice_get, IsUtf8, ⊤}
use Rattle.std.specs.List.{filter, flat_map}
use Rattle.std.specs.Option.{option_map_or}
use Rattle.csv_rows.specs.declared.fault.RowFault.{RowFault}
use Rattle.csv_rows.specs.declared.fault.RowFault.TheVariants.{Bad}
use Rattle.csv_rows.specs.declared.fault.RowFault.TheVariants as row_fault
use Rattle.build_law.specs.of_direct_meaning.Inputs.{Wanted, inputs_of, wanted_by}
use Rattle.flume_grammar.specs.declared.fault.ScriptFault.{ScriptFault}
use Rattle.flume_grammar.specs.declared.fault.ScriptFault.TheVariants as script_fault
use Rattle.flume_types.specs.Columns.{input_columns_of}
use Rattle.flume_types.specs.declared.column.Column.{Column}
use Rattle.flume_types.specs.declared.types.Ty.{Ty}
use Rattle.outside.specs.Asked.{Asks}
use Rattle.outside.specs.Seen.{SeenSource}
use Rattle.outside.specs.declared.loads.LoadFault.{LoadFault}
use Rattle.outside.specs.declared.loads.LoadFault.TheVariants as load
use Rattle.run_texts.specs.declared.status.Status.{Status}
use Rattle.run_texts.specs.declared.status.Status.TheVariants.{InputRefused, ReadFault, WantOfMemory, TooLong, NoFile}
use Rattle.script_program.specs.Needed.{is_needed, collections_numbered}
use Rattle.script_program.specs.Script.{Node, Script}
use Rattle.written_types.specs.Named.{Named}
use Rattle.script_loading.specs.Accepted.{Refused}
use Rattle.script_loading.specs.Asks.{AsksToStop}
use Rattle.script_loading.specs.Causes.{IsInputCause, IsInputsCause}
use Rattle.script_loading.specs.Loads.{file_names}

-- why a program was not made of the bytes
abbrev pub IsScriptFault : List ℕ → ScriptFault → Type 0
IsScriptFault bytes (script_fault.Refused line kind) = Refused bytes line kind
IsScriptFault bytes script_fault.Memory = ⊤

-- the answer to a refused load
abbrev pub status_of : LoadFault → List ℕ → ℕ → Status
status_of load.Missing name limit = NoFile name
status_of load.Failed name limit = ReadFault name
status_of load.TooLong name limit = TooLong name limit
status_of load.Memory name limit = WantOfMemory

-- the answer to a refused input
abbrev pub fault_status : RowFault → List ℕ → Status
fault_status (Bad row column kind) name = InputRefused name row column kind
fault_status row_fault.Memory name = WantOfMemory

-- the inputs of needed nodes, which have these numbers from one on
abbrev pub inputs_from : Script → ℕ → Named Node → List Wanted
inputs_from script number nodes =
    flat_map (λ it. wanted_by it.1.1.made it.1.1.type)
    (filter (λ it. is_needed script it.0) (collections_numbered number nodes))

-- this holds of the inputs of the nodes below a number
abbrev pub HoldsBelow : (List Wanted → Type 0) → Script → ℕ → Type 0
HoldsBelow P script number =
    (done : List Wanted)
    × (inputs_of script ≡ done ++ inputs_from script number (drop number script.nodes)) × P done

-- what holds of one list of inputs holds of another where these are behind them
abbrev pub GoesOver : (List Wanted → Type 0) → (List Wanted → Type 0) → List Wanted → Type 0
GoesOver P Q own = (done : List Wanted) → P done → Q (done ++ own)

-- this holds of these inputs, for whose files the source was asked
abbrev pub AreRead : (List Wanted → Type 0) → ℕ → SeenSource → SeenSource → List Wanted → Type 0
AreRead P tries before after inputs = P inputs × Asks tries (file_names inputs) before after

-- one of these inputs has no rows, where the answer is this one, and its file was asked for last
abbrev pub StopsReading : ℕ → SeenSource → SeenSource → List Wanted → Status → Type 0
StopsReading tries before after inputs status =
    IsInputsCause tries before after inputs status
    × AsksToStop tries (file_names inputs) before after status

-- ---- one node

-- the input that the node of that number is, where it is needed
abbrev pub inputs_at : Script → ℕ → List Wanted
inputs_at script number =
    if is_needed script number
    then option_map_or (λ it. wanted_by it.1.made it.1.type) (slice_get script.nodes number) []
    else []

-- the node of that number is an input that is needed, with this file and these columns
pub record IsNeededInput (script : Script) (number : ℕ) (file : List ℕ) (columns : List Column)
    : Type 0 where
  pub type : Ty
  pub fits : input_columns_of type ≡ Some columns
  pub wanted : inputs_at script number ≡ record { file = file; type = type } ∷ []
  pub named : IsUtf8 file

-- the node of that number is an input that is needed and has no rows, where the answer is this one
abbrev pub StopsAt : ℕ → SeenSource → SeenSource → Script → ℕ → Status → Type 0
StopsAt tries before after script number status =
    (wanted : Wanted) × (inputs_at script number ≡ wanted ∷ [])
    × IsInputCause tries before after wanted status
