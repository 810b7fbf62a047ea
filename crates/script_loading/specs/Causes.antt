-- Why a script was not read, or an input: the cause of each refusal.
use Rattle.std.specs.Prelude.{◌≡◌, ℕ, List, ◌∷◌, ◌++◌, Option, Some, Err, ⊤}
use Rattle.csv_rows.specs.Rows.{rows_of}
use Rattle.csv_rows.specs.declared.fault.RowFault.TheVariants.{Bad}
use Rattle.build_law.specs.of_direct_meaning.Inputs.{Wanted}
use Rattle.flume_value.specs.declared.value.Value.{Value}
use Rattle.outside.specs.Cause.{RoseBy}
use Rattle.outside.specs.Seen.{SeenSource}
use Rattle.outside.specs.declared.file.File.{File as NamedBytes}
use Rattle.run_texts.specs.declared.status.Status.{Status}
use Rattle.run_texts.specs.declared.status.Status.TheVariants.{ScriptRefused, InputRefused, ReadFault, WantOfMemory, TooLong, NoFile}
use Rattle.script_program.specs.Script.{Script}
use Rattle.script_loading.specs.Accepted.{Accepted, Refused}
use Rattle.script_loading.specs.Loads.{AllHaveRows, IsAbove, IsMissing, Loads}
use Rattle.script_loading.specs.Limits.{script_limit, input_limit}

-- the file of that name is accepted as this script
abbrev pub IsLoaded : Option (List NamedBytes) → List ℕ → Script → Type 0
IsLoaded told name script =
    (bytes : List ℕ) × Loads told name script_limit bytes × Accepted bytes script

-- how often a file is loaded before the source's failure is the answer
module _ (tries : ℕ) (before after : SeenSource) where
  -- why no bytes of a file were loaded, where the answer is this one
  abbrev pub IsLoadCause : List ℕ → ℕ → Status → Type 0
  IsLoadCause name limit (NoFile other) = (other ≡ name) × IsMissing before.files name
  IsLoadCause name limit (ReadFault other) =
      (other ≡ name) × RoseBy tries before.faults after.faults
  IsLoadCause name limit (TooLong other most) =
      (other ≡ name) × (most ≡ limit) × IsAbove before.files name limit
  IsLoadCause name limit WantOfMemory = ⊤
  IsLoadCause name limit status = ⊥

  -- why no script was read, where the answer is this one
  abbrev pub IsScriptCause : List ℕ → Status → Type 0
  IsScriptCause name (ScriptRefused line kind) =
      (bytes : List ℕ) × Loads before.files name script_limit bytes × Refused bytes line kind
  IsScriptCause name status = IsLoadCause name script_limit status

  -- why an input has no rows, where the answer is this one
  abbrev pub IsInputCause : Wanted → Status → Type 0
  IsInputCause wanted (InputRefused name row column kind) =
      (name ≡ wanted.file) × (bytes : List ℕ) × Loads before.files wanted.file input_limit bytes
      × (rows_of bytes wanted.type ≡ Some (Err (Bad row column kind)))
  IsInputCause wanted status = IsLoadCause wanted.file input_limit status

  -- why not all of these inputs have rows, where the answer is this one: the first that has none
  abbrev pub IsInputsCause : List Wanted → Status → Type 0
  IsInputsCause inputs status =
      (done : List Wanted) × (wanted : Wanted) × (behind : List Wanted)
      × (rows : List (List Value)) × (inputs ≡ done ++ wanted ∷ behind)
      × AllHaveRows before.files done rows × IsInputCause wanted status
