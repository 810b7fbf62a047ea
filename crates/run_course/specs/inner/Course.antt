-- The parts of the course of a call.
use Rattle.std.specs.Prelude.{◌≡◌, ◌⊎◌, ℕ, List, [], ◌∷◌, ◌++◌, codes, Option, Some, None, IsSome, Result, Ok, Err, ⊤}
use Rattle.std.specs.List.{All, AllZip, Contains}
use Rattle.command_words.specs.declared.words.Command.{Command}
use Rattle.command_words.specs.declared.words.Command.TheVariants.{Direct, Run}
use Rattle.outside.specs.Accounts.{Account}
use Rattle.csv_rows.specs.Text.{table_text}
use Rattle.script_loading.specs.of_direct_meaning.Direct.{meaning, sizes_of, traps_of}
use Rattle.script_loading.specs.of_direct_meaning.Evaluated.{bag_at}
use Rattle.script_loading.specs.of_direct_meaning.Inputs.{inputs_of}
use Rattle.exec_plan.specs.declared.plan.Plan.{Plan}
use Rattle.flume_collection.specs.Traps.{IsLeast}
use Rattle.flume_collection.specs.declared.trap.Trap.{Trap}
use Rattle.flume_value.specs.declared.value.Value.{Value}
use Rattle.outer_plans.specs.Plans.{IsNotTaken}
use Rattle.outside.specs.Asked.{Asks}
use Rattle.outside.specs.Saves.{HasFiles}
use Rattle.outside.specs.Says.{HasLine}
use Rattle.outside.specs.Seen.{SeenScreen, SeenShelf, SeenSource}
use Rattle.outside.specs.declared.file.File.{File as NamedBytes}
use Rattle.outside.specs.declared.host.Phase.{Phase}
use Rattle.plan_faults.specs.declared.fault.PlanFault.{PlanFault}
use Rattle.plan_faults.specs.declared.fault.PlanFault.TheVariants as plan_fault
use Rattle.plan_faults.specs.declared.fault.PlanKind.{PlanKind}
use Rattle.run_settings.specs.Settings.{RunSettings}
use Rattle.run_texts.specs.Lines.{line_of, trap_line}
use Rattle.run_texts.specs.Texts.{size_lines}
use Rattle.run_texts.specs.declared.status.Place.TheVariants.{File, Screen}
use Rattle.run_texts.specs.declared.status.Status.{Status}
use Rattle.run_texts.specs.declared.status.Status.TheVariants.{Done, GaveUp, Trap as Trapping, WriteFault, WantOfMemory, PlanRefused}
use Rattle.script_program.specs.declared.made.Output.{Output}
use Rattle.script_program.specs.Script.{Script}
use Rattle.script_run.specs.Runs.{IsLostOf}
use Rattle.script_loading.specs.Asks.{AsksToStop}
use Rattle.script_loading.specs.Causes.{IsInputsCause}
use Rattle.script_loading.specs.Loads.{AllHaveRows}
use Rattle.run_course.specs.Answers.{FailsAtFile, GivesUp, HasShown, IsCause, IsCutOff, IsFirstOfPlan, MayTell, name_at}
use Rattle.run_course.specs.Asked.{AskOn, inputs_read, plan_read, tries_of}
use Rattle.run_course.specs.Asks.{AsksAll, AsksFor}
use Rattle.run_course.specs.Hosts.{AsksInRun, AsksRun, MayHaveRun}
use Rattle.run_course.specs.Plans.{IsFileCause}
use Rattle.run_course.specs.Written.{IsMeant, CollectionTable, files_of}
use Rattle.run_course.specs.Limits.{usual_tries}
use Rattle.run_course.specs.declared.stop.Stop.{Stop}
use Rattle.run_course.specs.declared.stop.Trapped.{Trapped}
use Rattle.run_course.specs.declared.stop.Stop.TheVariants as stop

-- ---- what comes of it

-- Over these rows the script means collections without a trap, of which these files and this text
-- are.
pub record Comes (script : Script) (rows : List (List Value)) (front : List ℕ)
    (files : List NamedBytes) (text : List ℕ) (table : CollectionTable) : Type 0 where
  pub means : meaning script rows ≡ Some table
  pub through : traps_of table ≡ []
  pub written : files_of table script.outputs ≡ Some files
  pub shown : text ≡ front ++ (size_lines (sizes_of script table) ++ codes "done\n")

abbrev pub GivesFiles : Script → List (List Value) → List ℕ → List NamedBytes → List ℕ → Type 0
GivesFiles script rows front files text =
    (table : CollectionTable) × Comes script rows front files text table

-- over these rows the script has this trap, of which may be told, at a collection of this name
pub record TrapsAt (may_tell : List Trap → Trap → Type 0) (script : Script)
    (rows : List (List Value)) (trap : Trapped) (table : CollectionTable) : Type 0 where
  pub means : meaning script rows ≡ Some table
  pub told : may_tell (traps_of table) trap.trap
  pub named : name_at script trap.trap.origin ≡ Some trap.name

-- each output reads members that are there
abbrev pub HaveMembers : Script → List (Option (List Value)) → Type 0
HaveMembers script bags = All (λ entry. IsSome (bag_at bags entry.1.reads)) script.outputs

-- the file of an output that writes these members: their text, under its columns
abbrev pub file_with : List ℕ × Output → List Value → NamedBytes
file_with output members =
    record { name = output.0; bytes = table_text output.1.columns members }

-- the file is of this output, and has the members that it reads
abbrev pub IsFileOf : List (Option (List Value)) → List ℕ × Output → NamedBytes → Type 0
IsFileOf bags output file =
    (bag : List Value) × (bag_at bags output.1.reads ≡ Some bag) × (file ≡ file_with output bag)

-- the files are of these outputs, in order
abbrev pub AreFiles : List (Option (List Value)) → List (List ℕ × Output) → List NamedBytes →
    Type 0
AreFiles bags outputs files = AllZip (IsFileOf bags) outputs files

-- the files of outputs that write these members
abbrev pub files_with : List (List ℕ × Output) → List (List Value) → List NamedBytes
files_with [] members = []
files_with (output ∷ outputs) [] = []
files_with (output ∷ outputs) (own ∷ members) = file_with output own ∷ files_with outputs members

-- what stops is this trap, with the name of its collection
abbrev pub IsTrapOf : Script → Trap → Stop → Type 0
IsTrapOf script trap (stop.Refused status) = ⊥
IsTrapOf script trap (stop.Trapped it) =
    (it.trap ≡ trap) × (name_at script trap.origin ≡ Some it.name)

-- why the meaning of a script over these rows writes nothing: no memory was found, or a call traps
abbrev pub IsStop : Script → List (List Value) → Stop → Type 0
IsStop script rows (stop.Refused status) = status ≡ WantOfMemory
IsStop script rows (stop.Trapped trap) =
    (table : CollectionTable) × TrapsAt IsLeast script rows trap table

-- the answer is that the run of this plan over these rows gave a task up
abbrev pub IsGivingUp : RunSettings → Script → List (List Value) → Plan → List Account
    → List Account → Status → Type 0
IsGivingUp s script rows plan olds news status =
    (stage : ℕ) × (phase : Phase) × (task : ℕ) × (status ≡ GaveUp stage phase task)
    × IsLostOf s script rows plan olds news stage phase task

-- why the run of this plan over these rows on the lent hosts writes nothing: no memory was found, a
-- task was given up, or a call traps
abbrev pub IsRunStop : RunSettings → Script → List (List Value) → Plan → List Account
    → List Account → Stop → Type 0
IsRunStop s script rows plan olds news (stop.Refused status) =
    (status ≡ WantOfMemory) ⊎ IsGivingUp s script rows plan olds news status
IsRunStop s script rows plan olds news (stop.Trapped trap) =
    (table : CollectionTable)
    × TrapsAt (λ traps it. Contains traps it × IsFirstOfPlan s script rows plan olds news it) script
    rows trap table

-- over the rows of its inputs the script has this trap, of which the command may tell, where hosts
-- have gained so much
abbrev pub IsTrappedAt : Command → List Account → List Account → Option (List NamedBytes) → Script
    → Trapped → Type 0
IsTrappedAt command olds news told script trap =
    (rows : List (List Value)) × (table : CollectionTable) × IsMeant told script rows table
    × MayTell command told script rows olds news (traps_of table) trap.trap
    × (name_at script trap.trap.origin ≡ Some trap.name)

-- why the meaning of a script writes nothing; no host has a part in it
abbrev pub IsMeaningStop : SeenSource → SeenSource → Script → Stop → Type 0
IsMeaningStop before after script (stop.Refused status) =
    (status ≡ WantOfMemory) ⊎ IsInputsCause usual_tries before after (inputs_of script) status
IsMeaningStop before after script (stop.Trapped trap) =
    IsTrappedAt Direct [] [] before.files script trap

-- the command is a run of a script which gave a task up, and the answer is that
abbrev pub HasGivenUp : Command → Option (List NamedBytes) → List Account → List Account → Script
    → Status → Type 0
HasGivenUp command told olds news script status =
    (s : RunSettings) × (from : Option (List ℕ)) × (stage : ℕ) × (phase : Phase) × (task : ℕ)
    × (command ≡ Run s from) × (status ≡ GaveUp stage phase task)
    × GivesUp s from told olds news script stage phase task

-- the answer to a plan that is not taken
abbrev pub refusal_of : PlanFault → Status
refusal_of (plan_fault.Refused step kind) = PlanRefused step kind
refusal_of plan_fault.Memory = WantOfMemory

-- why the bytes of a file give no plan, where the answer is this one: no memory was found, or they
-- are refused
abbrev pub IsTakingStop : Script → List ℕ → Status → Type 0
IsTakingStop script bytes status =
    (status ≡ WantOfMemory)
    ⊎ ((step : ℕ) × (kind : PlanKind) × (status ≡ PlanRefused step kind)
    × IsNotTaken script bytes step kind)

-- why a run has no plan, where the answer is this one: no memory was found, or the file of a plan
-- gives none
abbrev pub IsPlanStop : ℕ → SeenSource → SeenSource → Script
    → Option (List ℕ) → Status → Type 0
IsPlanStop tries before after script None status = status ≡ WantOfMemory
IsPlanStop tries before after script (Some name) status =
    IsFileCause tries before after script name status

-- the command reads the file of a plan, which gives none, and the inputs that it reads have rows
abbrev pub HasNoPlan : Command → SeenSource → SeenSource → Script → Status
    → Type 0
HasNoPlan command before after script status =
    (name : List ℕ) × (rows : List (List Value)) × (plan_read command ≡ Some name)
    × AllHaveRows before.files (inputs_read command script) rows
    × IsFileCause (tries_of command) before after script name status

-- why a command writes nothing of this script
abbrev pub IsCommandStop : Command → SeenSource → SeenSource
    → List Account → List Account → Script → Stop → Type 0
IsCommandStop command before after olds news script (stop.Refused status) =
    (status ≡ WantOfMemory)
    ⊎ (IsInputsCause (tries_of command) before after (inputs_read command script) status
    ⊎ (HasGivenUp command before.files olds news script status
    ⊎ HasNoPlan command before after script status))
IsCommandStop command before after olds news script (stop.Trapped trap) =
    IsTrappedAt command olds news before.files script trap

-- the words ask for a script's meaning with this trap, of which the command may tell
abbrev pub HasTrap : List (List ℕ) → Option (List NamedBytes) → List Account → List Account
    → Trapped → Type 0
HasTrap words told olds news trap =
    (command : Command) × (script : Script) × (rows : List (List Value)) × (table : CollectionTable)
    × AskOn words told command script × IsMeant told script rows table
    × MayTell command told script rows olds news (traps_of table) trap.trap
    × (name_at script trap.trap.origin ≡ Some trap.name)

-- why nothing is written
abbrev pub IsStopped : List (List ℕ) → SeenSource → SeenSource
    → List Account → List Account → Stop → Type 0
IsStopped words before after olds news (stop.Refused status) =
    IsCause words before after olds news status
IsStopped words before after olds news (stop.Trapped trap) =
    HasTrap words before.files olds news trap

-- what is answered where this stops a call, and the line that the screen has got
abbrev pub TellsStop : Stop → SeenScreen → SeenScreen → Status → Type 0
TellsStop (stop.Refused told) before after status =
    (status ≡ told) × HasLine (line_of told) before after
TellsStop (stop.Trapped it) before after status =
    (status ≡ Trapping it.trap.origin it.trap.kind it.trap.element)
    × HasLine (trap_line it.name it.trap.kind it.trap.element) before after

-- ---- what is asked for

-- what was asked for of these files, by the answer to a command: all, or those up to the one that
-- was not read
module _ (tries : ℕ) (names : List (List ℕ)) (before after : SeenSource) where
  abbrev pub AsksWith : Status → Type 0
  AsksWith (GaveUp stage phase task) = Asks tries names before after
  AsksWith (PlanRefused step kind) = Asks tries names before after
  AsksWith status = AsksToStop tries names before after status

  -- the same, by what comes of a command
  abbrev pub AsksUntil : {T : Type 0} → Result T Stop → Type 0
  AsksUntil (Ok it) = Asks tries names before after
  AsksUntil (Err (stop.Trapped trap)) = Asks tries names before after
  AsksUntil (Err (stop.Refused status)) = AsksWith status

-- what was asked for in a call with these words, by what comes of it
module _ (words : List (List ℕ)) (before after : SeenSource) where
  abbrev pub AsksInCall : {T : Type 0} → Result T Stop → Type 0
  AsksInCall (Ok it) = AsksAll words before after
  AsksInCall (Err (stop.Trapped trap)) = AsksAll words before after
  AsksInCall (Err (stop.Refused status)) = AsksFor words before after status

-- ---- what hosts are asked for

-- what comes of a call may have come behind the phases of a run
abbrev pub MayHaveCome : {T : Type 0} → Result T Stop → Type 0
MayHaveCome (Ok it) = ⊤
MayHaveCome (Err (stop.Trapped trap)) = ⊤
MayHaveCome (Err (stop.Refused status)) = MayHaveRun status

-- the command is a run, whose phases were asked for
abbrev pub AsksAsRun : Command → Option (List NamedBytes) → Script → List Account → List Account
    → Type 0
AsksAsRun command told script olds news =
    (s : RunSettings) × (from : Option (List ℕ)) × (command ≡ Run s from)
    × AsksInRun s from told script olds news

-- what a command asked hosts for, by what comes of it: nothing, or the phases of a run
abbrev pub AsksHostsUntil : {T : Type 0} → Command → Option (List NamedBytes) → Script
    → List Account → List Account → Result T Stop → Type 0
AsksHostsUntil command told script olds news r =
    (olds ≡ news) ⊎ (MayHaveCome r × AsksAsRun command told script olds news)

-- the same of a call with these words
abbrev pub AsksHostsInCall : {T : Type 0} → List (List ℕ) → Option (List NamedBytes)
    → List Account → List Account → Result T Stop → Type 0
AsksHostsInCall words told olds news r =
    (olds ≡ news) ⊎ (MayHaveCome r × AsksRun words told olds news)

-- ---- what is left

-- what is left where a call came to the writing of these files and this text
abbrev pub Delivers : List NamedBytes → List ℕ → SeenShelf → SeenShelf → SeenScreen →
    SeenScreen → Status → Type 0
Delivers files text shelf shelf' screen screen' Done =
    HasFiles files shelf shelf' × HasShown text screen screen'
Delivers files text shelf shelf' screen screen' (WriteFault (File name)) =
    FailsAtFile name files shelf shelf'
    × HasLine (line_of (WriteFault (File name))) screen screen'
Delivers files text shelf shelf' screen screen' (WriteFault Screen) =
    HasFiles files shelf shelf' × IsCutOff text screen screen'
Delivers files text shelf shelf' screen screen' status = ⊥
