-- The cause of each answer, from the causes of its parts.
use Rattle.std.proofs.Common.{◌≡◌, ℕ, ◌≤◌, inl, inr, List, Option, Some, None, sym, refl, subst}
use Rattle.command_words.specs.declared.words.Command.{Command}
use Rattle.command_words.specs.declared.words.Command.TheVariants.{Direct, Run}
use Rattle.outside.specs.Accounts.{Account}
use Rattle.script_loading.specs.of_direct_meaning.Inputs.{Wanted, inputs_of}
use Rattle.exec_plan.specs.declared.plan.Plan.{Plan}
use Rattle.flume_value.specs.declared.value.Value.{Value}
use Rattle.outside.specs.Says.{HasLine}
use Rattle.outside.specs.Seen.{SeenSource}
use Rattle.outside.specs.declared.file.File.{File as NamedBytes}
use Rattle.run_settings.specs.Settings.{RunSettings}
use Rattle.run_texts.specs.Lines.{trap_line}
use Rattle.run_texts.specs.declared.status.Place.TheVariants.{File, Screen}
use Rattle.run_texts.specs.declared.status.Status.{Status}
use Rattle.run_texts.specs.declared.status.Status.TheVariants.{Done, ScriptRefused, InputRefused, Trap, ReadFault, WriteFault, WantOfMemory, TooLong, NoFile, PlanRefused}
use Rattle.script_program.specs.Script.{Script}
use Rattle.run_course.specs.Answers.{Answers, GivesUp, IsCause, IsRefused}
use Rattle.script_loading.specs.Loads.{AllHaveRows, IsAbove, IsMissing, Loads}
use Rattle.run_course.specs.Asked.{AskFor, IsAskedFor, IsPlanTurn, IsTurnOf, AskOn, inputs_read, tries_of}
use Rattle.run_course.specs.Lent.{lent}
use Rattle.run_course.specs.Plans.{IsFileCause, IsPlanFor}
use Rattle.run_course.specs.Outside.{Outside}
use Rattle.run_course.specs.Written.{IsMeant, IsWritten, Writes}
use Rattle.script_loading.specs.Limits.{script_limit, input_limit, plan_limit}
use Rattle.run_course.specs.declared.stop.Stop.{Stop}
use Rattle.run_course.specs.declared.stop.Stop.TheVariants as stop
use Rattle.run_course.specs.declared.stop.Trapped.{Trapped}
use Rattle.script_loading.specs.Causes.{IsInputCause, IsInputsCause, IsLoadCause, IsLoaded, IsScriptCause}
use Rattle.run_course.specs.inner.Course.{Delivers, HasTrap, IsCommandStop, IsMeaningStop, IsPlanStop, IsRunStop, IsStopped, IsTrappedAt, TellsStop}
use Rattle.script_loading.proofs.SinceLemmas.{inputs_since, load_since}
use Rattle.run_course.proofs.ReadLemmas.{Told, Words}

-- ---- a file

module _ (words : Words) (before after : SeenSource) (olds news : List Account)
    (command : Command) (name : List ℕ) (limit : ℕ)
    (turn : IsAskedFor words before.files command name limit) where
  -- its turn, under another name of the same file
  asked_as : (other : List ℕ) (most : ℕ) → other ≡ name → most ≡ limit
      → IsAskedFor words before.files command other most
  asked_as other most same equal =
      subst (λ (n : List ℕ). IsAskedFor words before.files command n most) (sym same)
      (subst (λ (m : ℕ). IsAskedFor words before.files command name m) (sym equal) turn)

  above_as : (other : List ℕ) (most : ℕ) → other ≡ name → most ≡ limit
      → IsAbove before.files name limit → IsAbove before.files other most
  above_as other most same equal above =
      subst (λ (n : List ℕ). IsAbove before.files n most) (sym same)
      (subst (λ (m : ℕ). IsAbove before.files name m) (sym equal) above)

  load_cause : (status : Status) → IsLoadCause (tries_of command) before after name limit status
      → IsCause words before after olds news status
  load_cause (NoFile other) cause = (
    command,
    limit,
    asked_as other limit cause.0 refl,
    subst (λ (n : List ℕ). IsMissing before.files n) (sym cause.0) cause.1,
  )
  load_cause (ReadFault other) cause =
      (command, limit, asked_as other limit cause.0 refl, cause.1)
  load_cause (TooLong other most) cause = (
    command,
    asked_as other most cause.0 cause.1,
    above_as other most cause.0 cause.1 cause.2,
  )
  load_cause WantOfMemory cause = tt
  load_cause _ cause = absurd cause

module _ (words : Words) (before after : SeenSource) (olds news : List Account)
    (command : Command) where
  -- the script's
  pub script_cause : (name : List ℕ) (status : Status) → AskFor words command name
      → IsScriptCause (tries_of command) before after name status
      → IsCause words before after olds news status
  script_cause name (ScriptRefused line kind) asked cause =
      (command, name, cause.0, asked, cause.1, cause.2)
  script_cause name status asked cause =
      load_cause words before after olds news command name script_limit (inl (asked, refl)) status
      cause

  -- an input's
  input_cause : (wanted : Wanted) (status : Status) → IsTurnOf words before.files command wanted
      → IsInputCause (tries_of command) before after wanted status
      → IsCause words before after olds news status
  input_cause wanted (InputRefused name row column kind) its cause =
      (command, wanted, cause.1, its, cause.0, cause.2, cause.3)
  input_cause wanted status its cause =
      load_cause words before after olds news command wanted.file input_limit
      (inr (inl (wanted, its, refl, refl))) status cause

  pub inputs_cause : (script : Script) (status : Status) → AskOn words before.files command script
      → IsInputsCause (tries_of command) before after (inputs_read command script) status
      → IsCause words before after olds news status
  inputs_cause script status read cause =
      input_cause cause.1 status
      (script, cause.0, cause.2, cause.3, read, cause.4, cause.5) cause.6

  -- that of a plan
  plan_cause : (script : Script) (name : List ℕ) (status : Status)
      → IsPlanTurn words before.files command script name
      → IsFileCause (tries_of command) before after script name status
      → IsCause words before after olds news status
  plan_cause script name (PlanRefused step kind) its cause =
      (command, script, name, cause.0, its, cause.1, cause.2)
  plan_cause script name status its cause =
      load_cause words before after olds news command name plan_limit
      (inr (inr (script, its, refl))) status cause

-- the same cause, counted from an earlier moment
file_since : (tries : ℕ) (before middle after : SeenSource) (script : Script) (name : List ℕ)
    (status : Status) → middle.files ≡ before.files → before.faults ≤ middle.faults
    → IsFileCause tries middle after script name status
    → IsFileCause tries before after script name status
file_since tries before middle after script name (PlanRefused step kind) told later cause =
    (cause.0, subst (λ (t : Told). Loads t name plan_limit cause.0) told cause.1, cause.2)
file_since tries before middle after script name status told later cause =
    load_since tries before middle after name plan_limit status told later cause

-- ---- a command

-- the words ask for this command on the script that was loaded
abbrev pub IsAt : Words → Told → Command → List ℕ → Script → Type 0
IsAt words told command name script = AskFor words command name × IsLoaded told name script

pub reads : (words : Words) (told : Told) (command : Command) (name : List ℕ) (script : Script)
    → IsAt words told command name script → AskOn words told command script
reads words told command name script at = (name, at.1.0, at.0, at.1.1, at.1.2)

pub written : (words : Words) (told : Told) (olds news : List Account) (command : Command)
    (name : List ℕ) (script : Script) (files : List NamedBytes) (text : List ℕ)
    → IsAt words told command name script → Writes command told olds news script files text
    → IsWritten words told olds news files text
written words told olds news command name script files text at writes =
    (command, script, reads words told command name script at, writes)

module _ (words : Words) (before middle after : SeenSource) (olds news : List Account)
    (command : Command) (name : List ℕ) (script : Script)
    (at : IsAt words before.files command name script) (told : middle.files ≡ before.files)
    (later : before.faults ≤ middle.faults) where
  command_cause : (status : Status)
      → IsCommandStop command middle after olds news script (stop.Refused status)
      → IsCause words before after olds news status
  command_cause status (inl memory) =
      subst (λ (s : Status). IsCause words before after olds news s) (sym memory) tt
  command_cause status (inr (inl cause)) =
      inputs_cause words before after olds news command script status
      (reads words before.files command name script at)
      (inputs_since (tries_of command) before middle after (inputs_read command script) status told
      later cause)
  command_cause status (inr (inr (inl it))) =
      subst (λ (a : Status). IsCause words before after olds news a) (sym it.6) (
        it.0,
        it.1,
        script,
        subst (λ (c : Command). AskOn words before.files c script) it.5
            (reads words before.files command name script at),
        subst (λ (t : Told). GivesUp it.0 it.1 t olds news script it.2 it.3 it.4) told it.7,
      )
  command_cause status (inr (inr (inr it))) =
      plan_cause words before after olds news command script it.0 status (
        it.1,
        reads words before.files command name script at,
        subst (λ (t : Told). AllHaveRows t (inputs_read command script) it.1) told it.3,
        it.2,
      )
      (file_since (tries_of command) before middle after script it.0 status told later it.4)

  pub command_stop : (why : Stop) → IsCommandStop command middle after olds news script why
      → IsStopped words before after olds news why
  command_stop (stop.Refused status) stops = command_cause status stops
  command_stop (stop.Trapped trap) stops =
      let trapped =
      subst (λ (t : Told). IsTrappedAt command olds news t script trap) told stops in (
        command,
        script,
        trapped.0,
        trapped.1,
        reads words before.files command name script at,
        trapped.2,
        trapped.3,
        trapped.4,
      )

-- what stops the meaning stops `direct`
pub meaning_stop : (before after : SeenSource) (olds news : List Account) (script : Script)
    (why : Stop) → IsMeaningStop before after script why
    → IsCommandStop Direct before after olds news script why
meaning_stop before after olds news script (stop.Refused status) (inl memory) = inl memory
meaning_stop before after olds news script (stop.Refused status) (inr cause) = inr (inl cause)
meaning_stop before after olds news script (stop.Trapped trap) trapped = trapped

-- what stops the run of a plan stops `run`
pub run_stop : (s : RunSettings) (from : Option (List ℕ)) (before after : SeenSource)
    (olds news : List Account) (script : Script) (rows : List (List Value)) (plan : Plan)
    (why : Stop)
    → AllHaveRows before.files (inputs_of script) rows → IsPlanFor before.files script from plan
    → IsRunStop s script rows plan (lent s olds) (lent s news) why
    → IsCommandStop (Run s from) before after olds news script why
run_stop s from before after olds news script rows plan (stop.Refused status) have is
    (inl memory) = inl memory
run_stop s from before after olds news script rows plan (stop.Refused status) have is (inr it) =
    let meant : IsMeant before.files script rows it.4.made
    = record { inputs = have; means = it.4.means } in
    inr (inr (inl (
      s,
      from,
      it.0,
      it.1,
      it.2,
      refl,
      it.3,
      (rows, plan, it.4.made, meant, is, it.4.given_up),
    )))
run_stop s from before after olds news script rows plan (stop.Trapped trap) have is trapped = (
  rows,
  trapped.0,
  record { inputs = have; means = trapped.1.means },
  (trapped.1.told.0, (plan, is, trapped.1.told.1)),
  trapped.1.named,
)

-- what leaves a run without a plan stops it
pub no_plan_stop : (s : RunSettings) (from : Option (List ℕ)) (before middle after : SeenSource)
    (olds news : List Account) (script : Script) (rows : List (List Value)) (status : Status)
    → middle.files ≡ before.files → before.faults ≤ middle.faults
    → AllHaveRows before.files (inputs_of script) rows
    → IsPlanStop s.tries middle after script from status
    → IsCommandStop (Run s from) before after olds news script (stop.Refused status)
no_plan_stop s None before middle after olds news script rows status told later have stops =
    inl stops
no_plan_stop s (Some name) before middle after olds news script rows status told later have stops =
    inr (inr (inr (
      name,
      rows,
      refl,
      have,
      file_since s.tries before middle after script name status told later stops,
    )))

-- ---- the answer

-- what a call that came to its writing answers
pub delivered : (words : Words) (before after : Outside) (files : List NamedBytes) (text : List ℕ)
    (status : Status) → IsWritten words before.source.files before.hosts after.hosts files text
    → Delivers files text before.shelf after.shelf before.screen after.screen status
    → Answers words before after status
delivered words before after files text Done writes left = (files, text, writes, left.0, left.1)
delivered words before after files text (WriteFault (File name)) writes left =
    (files, text, writes, left.0, left.1)
delivered words before after files text (WriteFault Screen) writes left =
    (files, text, writes, left.0, left.1)
delivered words before after files text _ writes left = absurd left

-- what a call that was refused answers
refusal : (words : Words) (before after : Outside) (status : Status)
    → IsCause words before.source after.source before.hosts after.hosts status
    → IsRefused status before after
    → Answers words before after status
refusal words before after Done cause left = absurd cause
refusal words before after (WriteFault place) cause left = absurd cause
refusal words before after (Trap origin kind element) cause left = absurd cause
refusal words before after _ cause left = (cause, left)

-- what a call answers whose script has this trap
trapped : (words : Words) (before after : Outside) (trap : Trapped)
    → HasTrap words before.source.files before.hosts after.hosts trap → after.shelf ≡ before.shelf
    → HasLine (trap_line trap.name trap.trap.kind trap.trap.element) before.screen after.screen
    → Answers words before after (Trap trap.trap.origin trap.trap.kind trap.trap.element)
trapped words before after trap has shelf line =
    (has.0, has.1, has.2, has.3, trap.name, has.4, has.5, has.6, has.7, shelf, line)

-- what a call answers that this stops
pub stopped : (words : Words) (before after : Outside) (why : Stop) (status : Status)
    → IsStopped words before.source after.source before.hosts after.hosts why
    → TellsStop why before.screen after.screen status → after.shelf ≡ before.shelf
    → Answers words before after status
stopped words before after (stop.Refused told) status is tells same =
    subst (λ (s : Status). Answers words before after s) (sym tells.0)
    (refusal words before after told is (record { shelf = same; line = tells.1 }))
stopped words before after (stop.Trapped trap) status is tells same =
    subst (λ (s : Status). Answers words before after s) (sym tells.0)
    (trapped words before after trap is same tells.1)
