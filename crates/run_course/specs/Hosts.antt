-- What a call asks hosts for.
use Rattle.std.specs.Prelude.{◌≡◌, ◌⊎◌, ℕ, List, Option, drop, length, ⊤}
use Rattle.command_words.specs.declared.words.Command.TheVariants.{Run}
use Rattle.outside.specs.Accounts.{Account}
use Rattle.script_loading.specs.of_direct_meaning.Inputs.{inputs_of}
use Rattle.exec_plan.specs.declared.plan.Plan.{Plan}
use Rattle.flume_value.specs.declared.value.Value.{Value}
use Rattle.outside.specs.declared.file.File.{File}
use Rattle.run_settings.specs.Settings.{RunSettings}
use Rattle.run_texts.specs.declared.status.Status.{Status}
use Rattle.run_texts.specs.declared.status.Status.TheVariants.{Done, GaveUp, Trap, WantOfMemory, WriteFault}
use Rattle.script_loading.specs.Loads.{AllHaveRows}
use Rattle.script_program.specs.Script.{Script}
use Rattle.script_run.specs.Runs.{AsksSomePhases, phases_of}
use Rattle.run_course.specs.Asked.{AskOn}
use Rattle.run_course.specs.Lent.{lent}
use Rattle.run_course.specs.Plans.{IsPlanFor}

-- The needed inputs of the script have rows, and there is a list of them for each source of the
-- plan that is run. Of the phases of that plan over them some front was asked for, one phase behind
-- the other: the hosts that the run lends were asked for its places alone, for each at most once,
-- in the work of each phase, of which the last may have come not to its end; and the other hosts
-- are as before.
pub record AsksInRun (s : RunSettings) (from : Option (List ℕ)) (told : Option (List File))
    (script : Script) (before after : List Account) : Type 0 where
  pub rows : List (List Value)
  pub plan : Plan
  pub inputs : AllHaveRows told (inputs_of script) rows
  pub is : IsPlanFor told script from plan
  pub sources : plan.sources ≡ length rows
  pub asked : AsksSomePhases s (phases_of s script rows plan) (lent s before) (lent s after)
  pub others : drop s.workers after ≡ drop s.workers before

-- a call that answers so may have come to the phases of a run
abbrev pub MayHaveRun : Status → Type 0
MayHaveRun Done = ⊤
MayHaveRun (Trap origin kind element) = ⊤
MayHaveRun (GaveUp stage phase task) = ⊤
MayHaveRun (WriteFault place) = ⊤
MayHaveRun WantOfMemory = ⊤
MayHaveRun status = ⊥

-- of a call with these words, where the source tells these files, and how hosts stood before it and
-- after it
module _ (words : List (List ℕ)) (told : Option (List File)) (before after : List Account) where
  -- the words ask for a run of a script, whose phases were asked for
  abbrev pub AsksRun : Type 0
  AsksRun =
      (s : RunSettings) × (from : Option (List ℕ)) × (script : Script)
      × AskOn words told (Run s from) script × AsksInRun s from told script before after

  -- no host was asked for anything; or the call may have come to a run's phases, and these were
  -- asked for
  abbrev pub AsksHosts : Status → Type 0
  AsksHosts status = (before ≡ after) ⊎ (MayHaveRun status × AsksRun)
