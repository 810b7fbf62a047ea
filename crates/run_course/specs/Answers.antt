-- Each answer of a call: its cause, and what stands afterwards.
use Rattle.std.specs.Prelude.{◌≡◌, ◌++◌, ℕ, List, Option, Some, None, Err, slice_get, ⊤}
use Rattle.std.specs.List.{Contains}
use Rattle.std.specs.Option.{option_map}
use Rattle.script_loading.specs.of_build_law.Worlds.{script_world}
use Rattle.outside.specs.Accounts.{Account}
use Rattle.csv_rows.specs.Rows.{rows_of}
use Rattle.csv_rows.specs.declared.fault.RowFault.TheVariants.{Bad}
use Rattle.csv_rows.specs.declared.fault.RowKind.{RowKind}
use Rattle.script_loading.specs.of_direct_meaning.Direct.{traps_of}
use Rattle.script_loading.specs.of_direct_meaning.Inputs.{Wanted}
use Rattle.exec_plan.specs.declared.plan.Plan.{Plan}
use Rattle.flume_collection.specs.Traps.{IsLeast}
use Rattle.flume_collection.specs.declared.trap.Trap.{Trap as TrapOf}
use Rattle.flume_value.specs.declared.fault.Kind.{Kind}
use Rattle.flume_value.specs.declared.value.Value.{Value}
use Rattle.outer_plans.specs.Plans.{IsNotTaken}
use Rattle.outside.specs.Cause.{Rose, RoseBy}
use Rattle.outside.specs.Saves.{FailsAt, HasFiles}
use Rattle.outside.specs.Says.{HasFront, HasLine}
use Rattle.outside.specs.Seen.{SeenScreen, SeenShelf, SeenSource}
use Rattle.outside.specs.Told.{WhereTold}
use Rattle.outside.specs.declared.file.File.{File as NamedBytes}
use Rattle.outside.specs.declared.host.Phase.{Phase}
use Rattle.plan_faults.specs.declared.fault.PlanKind.{PlanKind}
use Rattle.plan_phases.specs.Told.{HasTrapped, IsGivenUp}
use Rattle.run_settings.specs.Settings.{RunSettings}
use Rattle.run_texts.specs.Lines.{line_of, trap_line}
use Rattle.run_texts.specs.declared.status.Place.{Place}
use Rattle.run_texts.specs.declared.status.Place.TheVariants.{File, Screen}
use Rattle.flume_grammar.specs.declared.fault.ScriptKind.{ScriptKind}
use Rattle.run_texts.specs.declared.status.Status.{Status}
use Rattle.run_texts.specs.declared.status.Status.TheVariants.{Done, GaveUp, Usage, ScriptRefused, InputRefused, Trap, ReadFault, WriteFault, WantOfMemory, TooLong, NoFile, PlanRefused}
use Rattle.script_program.specs.Script.{Script}
use Rattle.script_run.specs.Runs.{phases_of, split_of}
use Rattle.task_lists.specs.Plans.{first_trap}
use Rattle.script_loading.specs.Accepted.{Refused}
use Rattle.script_loading.specs.Loads.{IsAbove, IsMissing, Loads}
use Rattle.run_course.specs.Asked.{AskFor, IsAskedFor, IsPlanTurn, IsTurnOf, AskOn, tries_of}
use Rattle.command_words.specs.Words.{asked_for}
use Rattle.run_course.specs.Lent.{lent}
use Rattle.run_course.specs.Plans.{IsPlanFor}
use Rattle.run_course.specs.Outside.{Outside}
use Rattle.run_course.specs.Written.{IsMeant, IsWritten, CollectionTable}
use Rattle.script_loading.specs.Limits.{script_limit, input_limit, plan_limit}
use Rattle.command_words.specs.declared.words.Command.{Command}
use Rattle.command_words.specs.declared.words.Command.TheVariants.{Check, Plan as Show, Direct, Run}

-- ---- what is written

-- the screen has got the text, and has not failed
pub record HasShown (text : List ℕ) (before after : SeenScreen) : Type 0 where
  pub told : after.text ≡ option_map (λ old. old ++ text) before.text
  pub faults : after.faults ≡ before.faults

-- the screen failed, and has a front of the text
pub record IsCutOff (text : List ℕ) (before after : SeenScreen) : Type 0 where
  pub told : WhereTold before.text after.text (HasFront text)
  pub faults : Rose before.faults after.faults

-- the shelf failed at the file of this name: those before it are whole, and those behind it as they
-- were
abbrev pub FailsAtFile : List ℕ → List NamedBytes → SeenShelf → SeenShelf → Type 0
FailsAtFile name files before after =
    (place : ℕ) × (file : NamedBytes) × (slice_get files place ≡ Some file) × (file.name ≡ name)
    × FailsAt place files before after

-- Done: each output file of the command is whole and ended, and the screen has got its text. For
-- `direct` and `run` no call traps, and a file is the sorted text of the script's direct meaning,
-- and for `run` each task of the plan was run.
abbrev pub IsDone : List (List ℕ) → Outside → Outside → Type 0
IsDone words before after =
    (files : List NamedBytes) × (text : List ℕ)
    × IsWritten words before.source.files before.hosts after.hosts files text
    × HasFiles files before.shelf after.shelf × HasShown text before.screen after.screen

-- WriteFault of a file: the call came to its writing, so no call of a function traps, and the shelf
-- failed there
abbrev pub IsFileFault : List ℕ → List (List ℕ) → Outside → Outside → Type 0
IsFileFault name words before after =
    (files : List NamedBytes) × (text : List ℕ)
    × IsWritten words before.source.files before.hosts after.hosts files text
    × FailsAtFile name files before.shelf after.shelf
    × HasLine (line_of (WriteFault (File name))) before.screen after.screen

-- WriteFault of the screen: every output file is whole and ended, and the screen failed in its text
abbrev pub IsScreenFault : List (List ℕ) → Outside → Outside → Type 0
IsScreenFault words before after =
    (files : List NamedBytes) × (text : List ℕ)
    × IsWritten words before.source.files before.hosts after.hosts files text
    × HasFiles files before.shelf after.shelf × IsCutOff text before.screen after.screen

-- what a call that came to its writing left, where that failed
abbrev pub IsWriteFault : Place → List (List ℕ) → Outside → Outside → Type 0
IsWriteFault (File name) words before after = IsFileFault name words before after
IsWriteFault Screen words before after = IsScreenFault words before after

-- ---- what is not

-- It is the first trap of a plan, as the settings split it: its task has run, or an object was to
-- be made there; and all phases and tasks before have run without a trap.
abbrev pub IsFirstOfPlan : RunSettings → Script → List (List Value) → Plan → List Account
    → List Account → TrapOf → Type 0
IsFirstOfPlan s script rows plan olds news trap =
    (first_trap (script_world script rows) (split_of s) plan ≡ Some trap)
    × HasTrapped s.tries s.drill (script_world script rows) (phases_of s script rows plan) olds news
    trap

-- the same of the plan that the run carries out
abbrev pub IsFirstOfTasks : RunSettings → Option (List ℕ) → Option (List NamedBytes) → Script
    → List (List Value) → List Account → List Account → TrapOf → Type 0
IsFirstOfTasks s from told script rows olds news trap =
    (plan : Plan) × IsPlanFor told script from plan
    × IsFirstOfPlan s script rows plan olds news trap

-- the trap that a command may tell of, among those of the script over these rows: `direct` tells of
-- the least, `run` of the first of its tasks on the lent hosts, and `check` and `plan` of none
abbrev pub MayTell : Command → Option (List NamedBytes) → Script → List (List Value)
    → List Account → List Account → List TrapOf → TrapOf → Type 0
MayTell Check told script rows olds news traps trap = ⊥
MayTell (Show form) told script rows olds news traps trap = ⊥
MayTell Direct told script rows olds news traps trap = IsLeast traps trap
MayTell (Run s from) told script rows olds news traps trap =
    Contains traps trap
    × IsFirstOfTasks s from told script rows (lent s olds) (lent s news) trap

-- the name of the collection of a number, where there is one
abbrev pub name_at : Script → ℕ → Option (List ℕ)
name_at script number = option_map (λ entry. entry.0) (slice_get script.nodes number)

-- Trap: the words ask for a script's meaning, and this is one of its traps; the shelf is untouched,
-- and the screen has the line, with the name of the collection that the trap's call makes
abbrev pub IsTrap : ℕ → Kind → Value → List (List ℕ) → Outside → Outside → Type 0
IsTrap origin kind element words before after =
    (command : Command) × (script : Script) × (rows : List (List Value)) × (table : CollectionTable)
    × (name : List ℕ)
    × AskOn words before.source.files command script
    × IsMeant before.source.files script rows table
    × MayTell command before.source.files script rows before.hosts after.hosts (traps_of table)
    (record { origin = origin; element = element; kind = kind })
    × (name_at script origin ≡ Some name)
    × (after.shelf ≡ before.shelf)
    × HasLine (trap_line name kind element) before.screen after.screen

-- Usage: the words ask for nothing
abbrev pub IsUsage : List (List ℕ) → Type 0
IsUsage words = asked_for words ≡ None

-- NoFile: it is the file's turn, and the source has none of that name
abbrev pub IsNoFile : List ℕ → List (List ℕ) → SeenSource → Type 0
IsNoFile name words source =
    (command : Command) × (limit : ℕ) × IsAskedFor words source.files command name limit
    × IsMissing source.files name

-- TooLong: it is the file's turn, and it has more bytes than its limit
abbrev pub IsTooLong : List ℕ → ℕ → List (List ℕ) → SeenSource → Type 0
IsTooLong name limit words source =
    (command : Command) × IsAskedFor words source.files command name limit
    × IsAbove source.files name limit

-- ReadFault: it is the file's turn, and the source failed in each of its loads, as often as the
-- command tries
abbrev pub IsReadFault : List ℕ → List (List ℕ) → SeenSource →
    SeenSource → Type 0
IsReadFault name words before after =
    (command : Command) × (limit : ℕ) × IsAskedFor words before.files command name limit
    × RoseBy (tries_of command) before.faults after.faults

-- ScriptRefused: the script was loaded, and its bytes are refused so
abbrev pub IsScriptRefused : ℕ → ScriptKind → List (List ℕ) → SeenSource → Type 0
IsScriptRefused line kind words source =
    (command : Command) × (name : List ℕ) × (bytes : List ℕ) × AskFor words command name
    × Loads source.files name script_limit bytes × Refused bytes line kind

-- InputRefused: it is the input's turn, its file was loaded, and this is the first fault of its
-- rows
abbrev pub IsInputRefused : List ℕ → ℕ → ℕ → RowKind → List (List ℕ) → SeenSource →
    Type 0
IsInputRefused name row column kind words source =
    (command : Command) × (wanted : Wanted) × (bytes : List ℕ)
    × IsTurnOf words source.files command wanted × (name ≡ wanted.file)
    × Loads source.files wanted.file input_limit bytes
    × (rows_of bytes wanted.type ≡ Some (Err (Bad row column kind)))

-- PlanRefused: it is the turn of the file of a plan, which was loaded, and its bytes are refused so
abbrev pub IsPlanRefused : ℕ → PlanKind → List (List ℕ) → SeenSource → Type 0
IsPlanRefused step kind words source =
    (command : Command) × (script : Script) × (name : List ℕ) × (bytes : List ℕ)
    × IsPlanTurn words source.files command script name
    × Loads source.files name plan_limit bytes × IsNotTaken script bytes step kind

-- All inputs of the script have rows, over which it has a meaning, and of this task of a phase of
-- the plan that is run no attempt has won: the drill and the losses of the lent hosts account for
-- each of its tries. All phases before it, and all smaller tasks of it, have run without a trap
abbrev pub GivesUp : RunSettings → Option (List ℕ) → Option (List NamedBytes) → List Account
    → List Account → Script → ℕ → Phase → ℕ → Type 0
GivesUp s from told olds news script stage phase task =
    (rows : List (List Value)) × (plan : Plan) × (table : CollectionTable)
    × IsMeant told script rows table × IsPlanFor told script from plan
    × IsGivenUp s.tries s.drill (script_world script rows) (phases_of s script rows plan)
    (lent s olds) (lent s news) stage phase task

-- GaveUp: the words ask for a run of a script, which gave this task up
abbrev pub IsGaveUp : ℕ → Phase → ℕ → List (List ℕ) → Option (List NamedBytes) → List Account
    → List Account → Type 0
IsGaveUp stage phase task words told olds news =
    (s : RunSettings) × (from : Option (List ℕ)) × (script : Script)
    × AskOn words told (Run s from) script
    × GivesUp s from told olds news script stage phase task

-- a refusal before anything is written: the shelf is untouched, and the screen has the refusal's
-- line
pub record IsRefused (status : Status) (before after : Outside) : Type 0 where
  pub shelf : after.shelf ≡ before.shelf
  pub line : HasLine (line_of status) before.screen after.screen

-- ---- the answer

-- the cause of each refusal that comes before anything is written; want of memory needs none
abbrev pub IsCause : List (List ℕ) → SeenSource → SeenSource
    → List Account → List Account → Status → Type 0
IsCause words before after olds news Usage = IsUsage words
IsCause words before after olds news (NoFile name) = IsNoFile name words before
IsCause words before after olds news (TooLong name limit) = IsTooLong name limit words before
IsCause words before after olds news (ReadFault name) = IsReadFault name words before after
IsCause words before after olds news (ScriptRefused line kind) =
    IsScriptRefused line kind words before
IsCause words before after olds news (InputRefused name row column kind) =
    IsInputRefused name row column kind words before
IsCause words before after olds news (GaveUp stage phase task) =
    IsGaveUp stage phase task words before.files olds news
IsCause words before after olds news (PlanRefused step kind) =
    IsPlanRefused step kind words before
IsCause words before after olds news WantOfMemory = ⊤
IsCause words before after olds news Done = ⊥
IsCause words before after olds news (Trap origin kind element) = ⊥
IsCause words before after olds news (WriteFault place) = ⊥

-- what each answer says of the words, of what stood before the call and of what stands after it
abbrev pub Answers : List (List ℕ) → Outside → Outside → Status → Type 0
Answers words before after Done = IsDone words before after
Answers words before after (Trap origin kind element) =
    IsTrap origin kind element words before after
Answers words before after (WriteFault place) = IsWriteFault place words before after
Answers words before after status =
    IsCause words before.source after.source before.hosts after.hosts status
    × IsRefused status before after
