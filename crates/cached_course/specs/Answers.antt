-- Each answer of a run that reuses what was kept: its cause, and what stands afterwards. The words
-- are those of the run without a cache.
use Rattle.std.specs.Prelude.{◌≡◌, ◌⊎◌, ℕ, List, Option, Some, None, drop, length}
use Rattle.std.specs.List.{AllByRecursion, Contains}
use Rattle.cache_store.specs.Seen.{SeenCache}
use Rattle.run_course.specs.of_build_law.Worlds.{script_world}
use Rattle.command_words.specs.declared.words.Command.TheVariants.{Run}
use Rattle.outside.specs.Accounts.{Account}
use Rattle.kept_results.specs.of_direct_meaning.Direct.{traps_of}
use Rattle.exec_plan.specs.declared.plan.Plan.{Plan}
use Rattle.flume_value.specs.declared.fault.Kind.{Kind}
use Rattle.flume_value.specs.Ranges.{IsHeld}
use Rattle.flume_value.specs.declared.value.Value.{Value}
use Rattle.kept_results.specs.Lists.{found_of, rows_for_script, later_of}
use Rattle.outside.specs.Saves.{HasFiles}
use Rattle.outside.specs.Says.{HasLine}
use Rattle.outside.specs.declared.file.File.{File as NamedBytes}
use Rattle.outside.specs.declared.host.Phase.{Phase}
use Rattle.plan_phases.specs.Told.{IsGivenUp}
use Rattle.run_course.specs.Answers.{FailsAtFile, HasShown, IsCause, IsCutOff, IsFirstOfPlan, IsRefused, name_at}
use Rattle.run_course.specs.Asked.{AskFor}
use Rattle.run_course.specs.Hosts.{MayHaveRun}
use Rattle.run_course.specs.Lent.{lent}
use Rattle.run_course.specs.Outside.{Outside}
use Rattle.run_course.specs.Written.{CollectionTable}
use Rattle.run_settings.specs.Settings.{RunSettings}
use Rattle.run_texts.specs.Lines.{line_of, trap_line}
use Rattle.run_texts.specs.declared.status.Place.TheVariants.{File, Screen}
use Rattle.run_texts.specs.declared.status.Status.{Status}
use Rattle.run_texts.specs.declared.status.Status.TheVariants.{Done, GaveUp, Trap, WriteFault}
use Rattle.saved_results.specs.declared.saved.Saved.{Saved}
use Rattle.run_course.specs.of_script_loading.Loads.{AllHaveRows}
use Rattle.run_course.specs.of_script_plans.Plans.{IsScriptPlan}
use Rattle.script_program.specs.Script.{Script}
use Rattle.run_course.specs.of_script_run.Runs.{AsksSomePhases, phases_of}
use Rattle.kept_results.specs.of_direct_meaning.Inputs.{inputs_of}
use Rattle.cached_course.specs.Kept.{HasKept, entries_kept, value_kept}
use Rattle.cached_course.specs.Looked.{AreKeyedOutputs, WereLooked, not_found}
use Rattle.cached_course.specs.Reused.{Found, IsReused, WritesReused}

-- How far the call came: its words ask for a run of a script, of whose collections that are asked
-- for this was found.
pub record HasLooked (words : List (List ℕ)) (told : Option (List NamedBytes))
    (cache later : SeenCache) : Type 0 where
  pub settings : RunSettings
  pub name : List ℕ
  pub script : Script
  pub asked : List (ℕ × List ℕ)
  pub looked : List (Option Saved)
  pub asks : AskFor words (Run settings None) name
  pub of_script : AreKeyedOutputs told name script asked
  pub was : WereLooked script asked looked cache later

module _ {words : List (List ℕ)} {told : Option (List NamedBytes)} {cache later : SeenCache}
    (it : HasLooked words told cache later) where
  abbrev pub found : Found
  found = found_of it.asked it.looked

  -- the script in which that is kept, and the lists that it is run over
  abbrev pub script_run : Script
  script_run = later_of it.script found

  abbrev pub lists_run : List (List Value) → List (List Value)
  lists_run rows = rows_for_script it.script found rows

-- a plan of what is run, over what it is run over, which means this table
pub record IsRunning (words : List (List ℕ)) (told : Option (List NamedBytes))
    (cache later : SeenCache) : Type 0 where
  pub it : HasLooked words told cache later
  pub rows : List (List Value)
  pub table : CollectionTable
  pub plan : Plan
  pub meant : IsReused told it.script (found it) rows table
  pub planned : IsScriptPlan (script_run it) plan

-- ---- what is written

-- the call came to its writing, with these files and this text
pub record WasReused (words : List (List ℕ)) (before after : Outside) (cache later : SeenCache)
    (files : List NamedBytes) (text : List ℕ) : Type 0 where
  pub it : HasLooked words before.source.files cache later
  pub table : CollectionTable
  pub writes : WritesReused it.settings before.source.files before.hosts after.hosts it.script
      (found it) files text table

module _ (words : List (List ℕ)) (before after : Outside) (cache later : SeenCache) where
  -- and behind its files each collection that is asked for and was not found was kept, as a
  -- program holds it
  pub record IsKept {files : List NamedBytes} {text : List ℕ}
      (was : WasReused words before after cache later files text) : Type 0 where
    pub held : AllByRecursion
        (λ one. IsHeld (value_kept was.it.script (found was.it) was.table one.0))
        (not_found was.it.asked was.it.looked)
    pub has : HasKept (entries_kept was.it.script was.it.asked was.it.looked was.table) cache later

  -- each output file is whole and ended, what was not found was kept, and this is so of the text
  -- that is the screen's
  abbrev pub CameToScreen : (List ℕ → Type 0) → Type 0
  CameToScreen is_told =
      (files : List NamedBytes) × (text : List ℕ)
      × (was : WasReused words before after cache later files text)
      × HasFiles files before.shelf after.shelf × IsKept was × is_told text

  -- Done: and the screen has got its text
  abbrev pub IsDone : Type 0
  IsDone = CameToScreen (λ text. HasShown text before.screen after.screen)

  -- WriteFault of a file: the shelf failed there, and nothing was kept
  abbrev pub IsFileFault : List ℕ → Type 0
  IsFileFault name =
      (files : List NamedBytes) × (text : List ℕ)
      × WasReused words before after cache later files text
      × FailsAtFile name files before.shelf after.shelf × (later.entries ≡ cache.entries)
      × HasLine (line_of (WriteFault (File name))) before.screen after.screen

  -- WriteFault of the screen: it failed in its text, behind the files and what was kept
  abbrev pub IsScreenFault : Type 0
  IsScreenFault = CameToScreen (λ text. IsCutOff text before.screen after.screen)

  -- ---- what is not

  -- Trap: it is the first of the tasks of the plan that is run, and of the meaning of what is run
  pub record IsTrap (origin : ℕ) (kind : Kind) (element : Value) : Type 0 where
    pub run : IsRunning words before.source.files cache later
    pub name : List ℕ
    pub trap : Contains (traps_of run.table)
        (record { origin = origin; element = element; kind = kind })
    pub first : IsFirstOfPlan run.it.settings (script_run run.it) (lists_run run.it run.rows)
        run.plan (lent run.it.settings before.hosts) (lent run.it.settings after.hosts)
        (record { origin = origin; element = element; kind = kind })
    pub named : name_at run.it.script origin ≡ Some name
    pub shelf : after.shelf ≡ before.shelf
    pub line : HasLine (trap_line name kind element) before.screen after.screen
    pub entries : later.entries ≡ cache.entries

  -- GaveUp: of this task of the plan that is run no attempt has won
  pub record IsGaveUp (stage : ℕ) (phase : Phase) (task : ℕ) : Type 0 where
    pub run : IsRunning words before.source.files cache later
    pub given_up : IsGivenUp run.it.settings.tries run.it.settings.drill
        (script_world (script_run run.it) (lists_run run.it run.rows))
        (phases_of run.it.settings (script_run run.it) (lists_run run.it run.rows) run.plan)
        (lent run.it.settings before.hosts) (lent run.it.settings after.hosts) stage phase task
    pub refused : IsRefused (GaveUp stage phase task) before after
    pub entries : later.entries ≡ cache.entries

  -- a refusal before anything is looked for: its cause is that of the run without a cache
  pub record IsRefusedEarly (status : Status) : Type 0 where
    pub cause : IsCause words before.source after.source before.hosts after.hosts status
    pub refused : IsRefused status before after
    pub entries : later.entries ≡ cache.entries

  -- what each answer says
  abbrev pub Answers : Status → Type 0
  Answers Done = IsDone
  Answers (WriteFault (File name)) = IsFileFault name
  Answers (WriteFault Screen) = IsScreenFault
  Answers (Trap origin kind element) = IsTrap origin kind element
  Answers (GaveUp stage phase task) = IsGaveUp stage phase task
  Answers status = IsRefusedEarly status

-- ---- what hosts are asked for

-- of a call with these words, where the source tells these files, and how hosts and the cache stood
-- before it and after it
module _ (words : List (List ℕ)) (told : Option (List NamedBytes)) (olds news : List Account)
    (cache later : SeenCache) where
  -- the phases of the plan that is run were asked for, or some front of them, and of the lent hosts
  -- alone
  pub record AsksRun : Type 0 where
    pub it : HasLooked words told cache later
    pub rows : List (List Value)
    pub plan : Plan
    pub inputs : AllHaveRows told (inputs_of it.script) rows
    pub planned : IsScriptPlan (script_run it) plan
    pub sources : plan.sources ≡ length (lists_run it rows)
    pub asked : AsksSomePhases it.settings
        (phases_of it.settings (script_run it) (lists_run it rows) plan)
        (lent it.settings olds) (lent it.settings news)
    pub others : drop it.settings.workers news ≡ drop it.settings.workers olds

  -- no host was asked for anything; or the call may have come to a run's phases, and these were
  -- asked for
  abbrev pub AsksHosts : Status → Type 0
  AsksHosts status = (olds ≡ news) ⊎ (MayHaveRun status × AsksRun)
