-- What a call promises.
use Rattle.std.specs.Prelude.{◌≡◌, ◌⊎◌, ℕ, false, List, [], ◌∷◌, Option, Some, IsSome, ⊤}
use Rattle.outside.specs.Accounts.{Account}
use Rattle.csv_rows.specs.declared.fault.RowKind.{RowKind}
use Rattle.script_loading.specs.of_direct_meaning.Direct.{meaning, traps_of}
use Rattle.exec_plan.specs.declared.plan.Plan.{Plan}
use Rattle.flume_collection.specs.declared.trap.Trap.{Trap as TrapOf}
use Rattle.flume_value.specs.declared.fault.Kind.{Kind}
use Rattle.flume_value.specs.declared.value.Value.{Value}
use Rattle.outside.specs.Cause.{Rose, RoseBy}
use Rattle.outside.specs.Seen.{SeenShelf, SeenSource}
use Rattle.outside.specs.declared.file.File.{File as NamedBytes}
use Rattle.outside.specs.declared.host.Phase.{Phase}
use Rattle.plan_faults.specs.declared.fault.PlanKind.{PlanKind}
use Rattle.plan_phases.specs.Phases.{with_tasks}
use Rattle.plan_phases.specs.Told.{CanFinishAll}
use Rattle.run_course.specs.Answers.{IsDone, IsFileFault, IsGaveUp, IsInputRefused, IsNoFile, IsPlanRefused, IsReadFault, IsRefused, IsScreenFault, IsScriptRefused, IsTooLong, IsTrap, IsUsage}
use Rattle.script_loading.specs.Loads.{AllHaveRows}
use Rattle.run_course.specs.Asks.{AsksFor}
use Rattle.run_course.specs.Asked.{AskOn, inputs_read, plan_read, tries_of}
use Rattle.run_course.specs.Hosts.{AsksHosts}
use Rattle.run_course.specs.Lent.{lent}
use Rattle.run_course.specs.Plans.{HasPlan, IsPlanFor}
use Rattle.run_course.specs.Outside.{Keeps, Outside}
use Rattle.run_course.specs.Written.{CollectionTable}
use Rattle.command_words.specs.declared.words.Command.{Command}
use Rattle.command_words.specs.declared.words.Command.TheVariants.{Check, Plan as Show, Direct, Run}
use Rattle.script_program.specs.Script.{Script}
use Rattle.script_run.specs.Runs.{phases_of}
use Rattle.run_texts.specs.declared.status.Place.TheVariants.{File, Screen}
use Rattle.flume_grammar.specs.declared.fault.ScriptKind.{ScriptKind}
use Rattle.run_texts.specs.declared.status.Status.{Status}
use Rattle.run_texts.specs.declared.status.Status.TheVariants.{Done, GaveUp, Usage, ScriptRefused, InputRefused, Trap, ReadFault, WriteFault, WantOfMemory, TooLong, NoFile, PlanRefused}

-- what stands after each answer that comes before anything is written
abbrev pub IsRefusal : Status → Outside → Outside → Type 0
IsRefusal Usage before after = IsRefused Usage before after
IsRefusal (NoFile name) before after = IsRefused (NoFile name) before after
IsRefusal (TooLong name limit) before after = IsRefused (TooLong name limit) before after
IsRefusal (ReadFault name) before after = IsRefused (ReadFault name) before after
IsRefusal (ScriptRefused line kind) before after = IsRefused (ScriptRefused line kind) before after
IsRefusal (InputRefused name row column kind) before after =
    IsRefused (InputRefused name row column kind) before after
IsRefusal (GaveUp stage phase task) before after = IsRefused (GaveUp stage phase task) before after
IsRefusal (PlanRefused step kind) before after = IsRefused (PlanRefused step kind) before after
IsRefusal WantOfMemory before after = IsRefused WantOfMemory before after
IsRefusal Done before after = ⊤
IsRefusal (Trap origin kind element) before after = ⊤
IsRefusal (WriteFault place) before after = ⊤

-- the answer is this one; or a file was not read, or no memory was found
abbrev pub IsUnlessFailed : Status → Status → Type 0
IsUnlessFailed wanted (ReadFault name) = ⊤
IsUnlessFailed wanted WantOfMemory = ⊤
IsUnlessFailed wanted status = status ≡ wanted

-- the shelf has no file begun, where the last call that was made went through
abbrev pub IsEnded : Status → SeenShelf → Type 0
IsEnded (WriteFault (File name)) shelf = ⊤
IsEnded status shelf = shelf.begun ≡ false

-- the shelf does not fail, where a command writes files
abbrev pub IsShelfCalm : Command → SeenShelf → SeenShelf → Type 0
IsShelfCalm Check before after = ⊤
IsShelfCalm (Show form) before after = ⊤
IsShelfCalm Direct before after = Rose before.faults after.faults → ⊥
IsShelfCalm (Run s from) before after = Rose before.faults after.faults → ⊥

-- the hosts can bring each task of a command to its end: for each task of the plan that a run
-- carries out, over rows over which the script has a meaning, some try is neither in the drill nor
-- accounted for by the losses of the lent hosts
abbrev pub CanEnd : Command → Option (List NamedBytes) → Script → List (List Value)
    → List Account → List Account → Type 0
CanEnd (Run s from) told script rows olds news =
    (plan : Plan) (table : CollectionTable) → IsPlanFor told script from plan
    → meaning script rows ≡ Some table
    → CanFinishAll s.tries s.drill (with_tasks (phases_of s script rows plan)) (lent s olds)
    (lent s news)
CanEnd _ told script rows olds news = ⊤

-- All is there that a command needs: files are told, the words ask for it on this script, the
-- inputs that it reads have these rows, the plan of a file that it names is taken, the source fails
-- less often than each file may be tried, neither the shelf, where it writes files, nor the screen
-- fails, and its hosts can end its tasks.
pub record CanRun (words : List (List ℕ)) (before after : Outside) (command : Command)
    (script : Script) (rows : List (List Value)) : Type 0 where
  pub told : IsSome before.source.files
  pub reads : AskOn words before.source.files command script
  pub inputs : AllHaveRows before.source.files (inputs_read command script) rows
  pub plan : HasPlan before.source.files script (plan_read command)
  pub source : RoseBy (tries_of command) before.source.faults after.source.faults → ⊥
  pub shelf : IsShelfCalm command before.shelf after.shelf
  pub screen : Rose before.screen.faults after.screen.faults → ⊥
  pub hosts : CanEnd command before.source.files script rows before.hosts after.hosts

abbrev pub IsTrapped : Status → Type 0
IsTrapped (Trap origin kind element) = ⊤
IsTrapped status = ⊥

-- a script of these traps came to its end: it is done where there are none, else trapped
abbrev pub EndsWith : List TrapOf → Status → Type 0
EndsWith [] status = status ≡ Done
EndsWith (trap ∷ traps) status = IsTrapped status

-- a script came to its end by its meaning over these rows
abbrev pub EndsByMeaning : Script → List (List Value) → Status → Type 0
EndsByMeaning script rows status =
    (table : CollectionTable) × (meaning script rows ≡ Some table)
    × EndsWith (traps_of table) status

-- a command came to its end: a script is checked and planned whatever its traps, else they decide
abbrev pub EndsAs : Command → Script → List (List Value) → Status → Type 0
EndsAs Check script rows status = status ≡ Done
EndsAs (Show form) script rows status = status ≡ Done
EndsAs Direct script rows status = EndsByMeaning script rows status
EndsAs (Run s from) script rows status = EndsByMeaning script rows status

-- the same, or no memory was found
abbrev pub IsEnd : Command → Script → List (List Value) → Status → Type 0
IsEnd command script rows status = (status ≡ WantOfMemory) ⊎ EndsAs command script rows status

-- A file that is too long, a script or an input that is refused: each of them is answered wherever
-- its cause stands.
pub record IsAlwaysRefused (words : List (List ℕ)) (source : SeenSource) (status : Status)
    : Type 0 where
  pub too_long : (name : List ℕ) (limit : ℕ) → IsTooLong name limit words source →
      IsUnlessFailed (TooLong name limit) status
  pub script_refused : (line : ℕ) (kind : ScriptKind) →
      IsScriptRefused line kind words source → IsUnlessFailed (ScriptRefused line kind) status
  pub input_refused : (name : List ℕ) (row column : ℕ) (kind : RowKind) →
      IsInputRefused name row column kind words source →
      IsUnlessFailed (InputRefused name row column kind) status

-- What is so after a call with these words, which found the one world and left the other, and
-- answered so.
pub record ScriptPromises (words : List (List ℕ)) (before after : Outside)
    (status : Status) : Type 0 where
  -- the headline: every output file is whole, ended and right, and so is the screen's text
  pub done : status ≡ Done → IsDone words before after
  -- one of the script's traps is named, for `direct` the least and for `run` the first of its
  -- tasks, and nothing is written
  pub trap : (origin : ℕ) (kind : Kind) (element : Value) → status ≡ Trap origin kind element →
      IsTrap origin kind element words before after
  -- the cause of each refusal that comes before anything is written, want of memory aside
  pub usage : status ≡ Usage → IsUsage words
  pub no_file : (name : List ℕ) → status ≡ NoFile name → IsNoFile name words before.source
  pub read_fault : (name : List ℕ) → status ≡ ReadFault name →
      IsReadFault name words before.source after.source
  pub too_long : (name : List ℕ) (limit : ℕ) → status ≡ TooLong name limit →
      IsTooLong name limit words before.source
  -- what the source was asked for: the script's file, then those of the inputs that the command
  -- reads, in order, and then that of a plan, each once, and again only where the source failed, as
  -- often as is tried
  pub asked : AsksFor words before.source after.source status
  -- what hosts were asked for: nothing, or for `run` some front of its plan's phases, one behind
  -- the other, each place at most once, and this of the lent hosts alone
  pub asked_hosts : AsksHosts words before.source.files before.hosts after.hosts status
  pub script_refused : (line : ℕ) (kind : ScriptKind) → status ≡ ScriptRefused line kind →
      IsScriptRefused line kind words before.source
  pub input_refused : (name : List ℕ) (row column : ℕ) (kind : RowKind) →
      status ≡ InputRefused name row column kind →
      IsInputRefused name row column kind words before.source
  pub plan_refused : (step : ℕ) (kind : PlanKind) → status ≡ PlanRefused step kind →
      IsPlanRefused step kind words before.source
  pub gave_up : (stage : ℕ) (phase : Phase) (task : ℕ) → status ≡ GaveUp stage phase task →
      IsGaveUp stage phase task words before.source.files before.hosts after.hosts
  -- these come wherever their cause stands, where files are told
  pub always_usage : IsUsage words → IsUnlessFailed Usage status
  pub always_refused : IsSome before.source.files → IsAlwaysRefused words before.source status
  pub always_plan_refused : IsSome before.source.files → (step : ℕ) (kind : PlanKind) →
      IsPlanRefused step kind words before.source → IsUnlessFailed (PlanRefused step kind) status
  -- what stands after a refusal: the shelf is untouched, and the screen has its line
  pub refused : IsRefusal status before after
  -- the writes that failed: their cause, and what stands
  pub file_fault : (name : List ℕ) → status ≡ WriteFault (File name) →
      IsFileFault name words before after
  pub screen_fault : status ≡ WriteFault Screen → IsScreenFault words before after
  -- where all is there that a command needs, it is done, or trapped where the meaning that it asks
  -- for has a trap
  pub complete : (command : Command) (script : Script) (rows : List (List Value)) →
      CanRun words before after command script rows → IsEnd command script rows status
  -- the source tells what it told, no count of failures falls, and what hosts tell only grows
  pub kept : Keeps before after
  -- no file is left begun
  pub ended : before.shelf.begun ≡ false → IsEnded status after.shelf
  pub left : before.shelf.begun ≡ false → after.shelf.left ≡ before.shelf.left
