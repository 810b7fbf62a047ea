-- A refusal comes wherever its cause stands, where files are told.
use Rattle.std.proofs.Common.{ℕ, inl, inr, List, [], Option, Some, None, sym, ◌∙◌, refl}
use Rattle.std.specs.Prelude.{IsSome}
use Rattle.command_words.specs.declared.words.Command.{Command}
use Rattle.command_words.specs.declared.words.Command.TheVariants.{Check, Plan, Direct, Run}
use Rattle.outside.specs.Accounts.{Account}
use Rattle.script_loading.specs.of_direct_meaning.Direct.{traps_of}
use Rattle.exec_plan.specs.declared.plan.Plan.{Plan as PlanOf}
use Rattle.flume_collection.specs.declared.trap.Trap.{Trap as TrapOf}
use Rattle.flume_value.specs.declared.fault.Kind.{Kind}
use Rattle.flume_value.specs.declared.value.Value.{Value}
use Rattle.outside.specs.declared.file.File.{File as NamedBytes}
use Rattle.outside.specs.declared.host.Phase.{Phase}
use Rattle.run_texts.specs.declared.status.Place.TheVariants.{File, Screen}
use Rattle.run_texts.specs.declared.status.Status.{Status}
use Rattle.run_texts.specs.declared.status.Status.TheVariants.{Done, GaveUp, Usage, ScriptRefused, InputRefused, Trap, ReadFault, WriteFault, WantOfMemory, TooLong, NoFile, PlanRefused}
use Rattle.script_program.specs.Script.{Script}
use Rattle.run_course.specs.Answers.{Answers, IsGaveUp, IsTrap, IsUsage, MayTell}
use Rattle.script_loading.specs.Loads.{AllHaveRows}
use Rattle.run_course.specs.Asked.{AskFor, IsAskedFor, AskOn, inputs_read, plan_read}
use Rattle.run_course.specs.Plans.{HasPlan, IsPlanFor}
use Rattle.run_course.specs.Promises.{IsUnlessFailed}
use Rattle.run_course.specs.Outside.{Outside}
use Rattle.run_course.specs.Written.{IsMeant, IsWritten, CollectionTable, Writes}
use Rattle.run_course.proofs.ReadLemmas.{Told, Words}
use Rattle.run_course.proofs.StopLemmas.{Stops, asked_some, input_stops, no_file_stops, no_run, one_stop, plan_stops, script_stops, too_long_stops}

-- ---- what was read

-- a plan that a run has is there
has_plan : (told : Told) (script : Script) (from : Option (List ℕ)) (plan : PlanOf)
    → IsPlanFor told script from plan → HasPlan told script from
has_plan told script None plan is = tt
has_plan told script (Some name) plan is = (plan, is)

-- the rows that a command has read that came to its end
record HasRead (words : Words) (told : Told) : Type 0 where
  pub command : Command
  pub script : Script
  pub rows : List (List Value)
  pub reads : AskOn words told command script
  pub inputs : AllHaveRows told (inputs_read command script) rows
  pub plan : HasPlan told script (plan_read command)

read_of : (words : Words) (told : Told) (command : Command) (script : Script)
    (rows : List (List Value)) → AskOn words told command script
    → AllHaveRows told (inputs_read command script) rows
    → HasPlan told script (plan_read command) → HasRead words told
read_of words told command script rows reads inputs plan = record {
  command = command;
  script = script;
  rows = rows;
  reads = reads;
  inputs = inputs;
  plan = plan;
}

written_rows : (words : Words) (told : Told) (olds news : List Account) (files : List NamedBytes)
    (text : List ℕ) (command : Command) (script : Script) → AskOn words told command script
    → Writes command told olds news script files text → HasRead words told
written_rows words told olds news files text Check script reads writes =
    read_of words told Check script [] reads tt tt
written_rows words told olds news files text (Plan form) script reads writes =
    read_of words told (Plan form) script [] reads tt tt
written_rows words told olds news files text Direct script reads writes =
    read_of words told Direct script writes.0 reads writes.2.meant.inputs tt
written_rows words told olds news files text (Run s from) script reads writes =
    read_of words told (Run s from) script writes.1 reads writes.4.meant.inputs
    (has_plan told script from writes.0 writes.3)

written_read : (words : Words) (told : Told) (olds news : List Account) (files : List NamedBytes)
    (text : List ℕ) → IsWritten words told olds news files text → HasRead words told
written_read words told olds news files text it =
    written_rows words told olds news files text it.0 it.1 it.2 it.3

trap_rows : (words : Words) (told : Told) (command : Command) (script : Script)
    (rows : List (List Value)) (table : CollectionTable) (olds news : List Account) (trap : TrapOf)
    → AskOn words told command script → IsMeant told script rows table
    → MayTell command told script rows olds news (traps_of table) trap → HasRead words told
trap_rows words told Check script rows table olds news trap reads meant tells = absurd tells
trap_rows words told (Plan form) script rows table olds news trap reads meant tells = absurd tells
trap_rows words told Direct script rows table olds news trap reads meant tells =
    read_of words told Direct script rows reads meant.inputs tt
trap_rows words told (Run s from) script rows table olds news trap reads meant tells =
    read_of words told (Run s from) script rows reads meant.inputs
    (has_plan told script from tells.1.0 tells.1.1)

trap_read : (words : Words) (before after : Outside) (origin : ℕ) (kind : Kind) (element : Value)
    → IsTrap origin kind element words before after → HasRead words before.source.files
trap_read words before after origin kind element it =
    trap_rows words before.source.files it.0 it.1 it.2 it.3 before.hosts after.hosts
    (record { origin = origin; element = element; kind = kind }) it.5 it.6 it.7

given_read : (words : Words) (told : Told) (olds news : List Account) (stage : ℕ) (phase : Phase)
    (task : ℕ) → IsGaveUp stage phase task words told olds news → HasRead words told
given_read words told olds news stage phase task it =
    read_of words told (Run it.0 it.1) it.2 it.4.0 it.3 it.4.3.inputs
    (has_plan told it.2 it.1 it.4.1 it.4.4)

-- ---- it comes

not_stopped : {A : Type 0} (words : Words) (told : Told) (wanted : Status)
    → IsSome told → Stops words told wanted → HasRead words told → A
not_stopped words told wanted tells stops read =
    absurd (no_run words told wanted read.command read.script read.rows tells stops read.reads
    read.inputs read.plan)

pub always : (words : Words) (before after : Outside) (status wanted : Status)
    → IsSome before.source.files → Stops words before.source.files wanted
    → Answers words before after status → IsUnlessFailed wanted status
always words before after Done wanted tells stops answers =
    not_stopped words before.source.files wanted tells stops (written_read words before.source.files
    before.hosts after.hosts answers.0 answers.1 answers.2)
always words before after (Trap origin kind element) wanted tells stops answers =
    not_stopped words before.source.files wanted tells stops (trap_read words before after origin
    kind element answers)
always words before after (WriteFault (File name)) wanted tells stops answers =
    not_stopped words before.source.files wanted tells stops (written_read words before.source.files
    before.hosts after.hosts answers.0 answers.1 answers.2)
always words before after (WriteFault Screen) wanted tells stops answers =
    not_stopped words before.source.files wanted tells stops (written_read words before.source.files
    before.hosts after.hosts answers.0 answers.1 answers.2)
always words before after Usage wanted tells stops answers = absurd (asked_some words
    before.source.files wanted stops answers.0)
always words before after (NoFile name) wanted tells stops answers =
    one_stop words before.source.files (NoFile name) wanted tells (no_file_stops words before.source
    name answers.0) stops
always words before after (TooLong name limit) wanted tells stops answers =
    one_stop words before.source.files (TooLong name limit) wanted tells (too_long_stops words
    before.source name limit answers.0) stops
always words before after (ScriptRefused line kind) wanted tells stops answers =
    one_stop words before.source.files (ScriptRefused line kind) wanted tells (script_stops words
    before.source line kind answers.0) stops
always words before after (InputRefused name row column kind) wanted tells stops answers =
    one_stop words before.source.files (InputRefused name row column kind) wanted tells (input_stops
    words before.source name row column kind answers.0) stops
always words before after (GaveUp stage phase task) wanted tells stops answers =
    not_stopped words before.source.files wanted tells stops (given_read words before.source.files
    before.hosts after.hosts stage phase task answers.0)
always words before after (PlanRefused step kind) wanted tells stops answers =
    one_stop words before.source.files (PlanRefused step kind) wanted tells (plan_stops words
    before.source step kind answers.0) stops
always words before after (ReadFault name) wanted tells stops answers = tt
always words before after WantOfMemory wanted tells stops answers = tt

-- words that ask for nothing ask for no file
pub none_asked : {A : Type 0} (words : Words) (command : Command) (name : List ℕ) → IsUsage words
    → AskFor words command name → A
none_asked words command name none some = let wrong = sym none ∙ some in absurd (cc)

none_read : {A : Type 0} (words : Words) (told : Told) → IsUsage words
    → HasRead words told → A
none_read words told none read = none_asked words read.command read.reads.0 none read.reads.2

none_turn : {A : Type 0} (words : Words) (told : Told) (command : Command) (name : List ℕ)
    (limit : ℕ) → IsUsage words → IsAskedFor words told command name limit → A
none_turn words told command name limit none (inl asked) =
    none_asked words command name none asked.0
none_turn words told command name limit none (inr (inl asked)) =
    none_asked words command asked.1.4.0 none asked.1.4.2
none_turn words told command name limit none (inr (inr asked)) =
    none_asked words command asked.1.1.0 none asked.1.1.2

pub always_usage : (words : Words) (before after : Outside) (status : Status) → IsUsage words
    → Answers words before after status → IsUnlessFailed Usage status
always_usage words before after Usage none answers = refl
always_usage words before after WantOfMemory none answers = tt
always_usage words before after (ReadFault name) none answers = tt
always_usage words before after Done none answers =
    none_read words before.source.files none (written_read words before.source.files
    before.hosts after.hosts answers.0 answers.1 answers.2)
always_usage words before after (Trap origin kind element) none answers =
    none_read words before.source.files none (trap_read words before after origin kind element
    answers)
always_usage words before after (WriteFault (File name)) none answers =
    none_read words before.source.files none (written_read words before.source.files
    before.hosts after.hosts answers.0 answers.1 answers.2)
always_usage words before after (WriteFault Screen) none answers =
    none_read words before.source.files none (written_read words before.source.files
    before.hosts after.hosts answers.0 answers.1 answers.2)
always_usage words before after (NoFile name) none answers =
    none_turn words before.source.files answers.0.0 name answers.0.1 none answers.0.2
always_usage words before after (TooLong name limit) none answers =
    none_turn words before.source.files answers.0.0 name limit none answers.0.1
always_usage words before after (ScriptRefused line kind) none answers =
    none_asked words answers.0.0 answers.0.1 none answers.0.3
always_usage words before after (InputRefused name row column kind) none answers =
    none_asked words answers.0.0 answers.0.3.4.0 none answers.0.3.4.2
always_usage words before after (PlanRefused step kind) none answers =
    none_asked words answers.0.0 answers.0.4.1.0 none answers.0.4.1.2
always_usage words before after (GaveUp stage phase task) none answers =
    none_read words before.source.files none (given_read words before.source.files before.hosts
    after.hosts stage phase task answers.0)
