-- What a run promises that reuses what was kept. The words are those of the run without a cache.
use Rattle.std.specs.Prelude.{◌≡◌, ◌≤◌, ◌⊎◌, ℕ, false, List, Option, None, [], IsSome, is_some}
use Rattle.std.specs.List.{Contains}
use Rattle.cache_store.specs.Seen.{SeenCache}
use Rattle.command_words.specs.declared.words.Command.TheVariants.{Run}
use Rattle.kept_results.specs.of_direct_meaning.Direct.{sizes_of, traps_of}
use Rattle.kept_results.specs.of_direct_meaning.Inputs.{inputs_of}
use Rattle.exec_plan.specs.declared.plan.Plan.{Plan}
use Rattle.flume_collection.specs.declared.trap.Trap.{Trap}
use Rattle.flume_value.specs.declared.value.Value.{Value}
use Rattle.outside.specs.Cause.{Rose, RoseBy}
use Rattle.outside.specs.declared.file.File.{File}
use Rattle.plan_phases.specs.Phases.{with_tasks}
use Rattle.plan_phases.specs.Told.{CanFinishAll}
use Rattle.run_course.specs.Asked.{AskOn}
use Rattle.run_course.specs.Asks.{AsksFor}
use Rattle.run_course.specs.Lent.{lent}
use Rattle.run_course.specs.Promises.{EndsWith, IsAlwaysRefused, IsEnded}
use Rattle.run_course.specs.Outside.{Keeps, Outside}
use Rattle.run_course.specs.Written.{IsMeant, CollectionTable, files_of}
use Rattle.run_settings.specs.Settings.{RunSettings}
use Rattle.run_texts.specs.declared.status.Status.{Status}
use Rattle.run_texts.specs.declared.status.Status.TheVariants.{WantOfMemory}
use Rattle.run_course.specs.of_script_loading.Loads.{AllHaveRows}
use Rattle.run_course.specs.of_script_plans.Plans.{IsScriptPlan}
use Rattle.script_program.specs.Script.{Script}
use Rattle.run_course.specs.of_script_run.Runs.{phases_of}
use Rattle.cached_course.specs.Answers.{Answers, AsksHosts, HasLooked, found, lists_run, script_run}
use Rattle.cached_course.specs.Reused.{Found, IsReused, all_sizes}
use Rattle.cached_course.specs.Sound.{TellsSoundEntries}

-- ---- over a sound cache

-- What is run means what the script means: the outputs have the same files and all collections the
-- same sizes; where the one has no trap the other has none, and each trap is one of the script.
pub record IsAsMeant (told : Option (List File)) (script : Script) (found : Found)
    (rows : List (List Value)) (table : CollectionTable) : Type 0 where
  pub made : CollectionTable
  pub meant : IsMeant told script rows made
  pub files : files_of table script.outputs ≡ files_of made script.outputs
  pub sizes : all_sizes script found table ≡ sizes_of script made
  pub through : traps_of table ≡ [] → traps_of made ≡ []
  pub trapped : (trap : Trap) → Contains (traps_of table) trap → Contains (traps_of made) trap

-- ---- when a run comes to its end

-- All is there that the run needs: files are told, the words ask for it on this script, the inputs
-- that it needs have these rows, the source fails less often than each file may be tried, neither
-- the shelf nor the screen fails, and its hosts can end its tasks, whatever is found.
pub record CanRun (words : List (List ℕ)) (before after : Outside) (cache later : SeenCache)
    (s : RunSettings) (script : Script) (rows : List (List Value)) : Type 0 where
  pub told : IsSome before.source.files
  pub reads : AskOn words before.source.files (Run s None) script
  pub inputs : AllHaveRows before.source.files (inputs_of script) rows
  pub source : RoseBy s.tries before.source.faults after.source.faults → ⊥
  pub shelf : Rose before.shelf.faults after.shelf.faults → ⊥
  pub screen : Rose before.screen.faults after.screen.faults → ⊥
  pub hosts : (it : HasLooked words before.source.files cache later) (plan : Plan)
      → IsScriptPlan (script_run it) plan
      → CanFinishAll s.tries s.drill
      (with_tasks (phases_of s (script_run it) (lists_run it rows) plan)) (lent s before.hosts)
      (lent s after.hosts)

-- the run came to its end by the meaning of what it ran
pub record Ends (words : List (List ℕ)) (before : Outside) (cache later : SeenCache)
    (rows : List (List Value)) (status : Status) : Type 0 where
  pub it : HasLooked words before.source.files cache later
  pub table : CollectionTable
  pub meant : IsReused before.source.files it.script (found it) rows table
  pub ends : EndsWith (traps_of table) status

-- ---- the promises

-- What is so after a run with these words, which found the one world and cache and left the other,
-- and answered so.
pub record ReusePromises (words : List (List ℕ)) (before after : Outside) (cache later : SeenCache)
    (status : Status) : Type 0 where
  -- what each answer says: what was written and kept, or why not
  pub answers : Answers words before after cache later status
  -- what the source was asked for, as without a cache; and what hosts were asked for
  pub asked : AsksFor words before.source after.source status
  pub asked_hosts : AsksHosts words before.source.files before.hosts after.hosts cache later
      status
  -- these come wherever their cause stands, where files are told
  pub always_refused : IsSome before.source.files → IsAlwaysRefused words before.source status
  -- where all is there that a run needs, it is done, or trapped where what it ran has a trap
  pub complete : (s : RunSettings) (script : Script) (rows : List (List Value)) →
      CanRun words before after cache later s script rows →
      (status ≡ WantOfMemory) ⊎ Ends words before cache later rows status
  -- over a sound cache whatever was found, what is run means what the script means, and the cache
  -- that is left is sound
  pub as_meant : IsSome before.source.files → TellsSoundEntries cache →
      (it : HasLooked words before.source.files cache later) (rows : List (List Value))
      (table : CollectionTable) → IsReused before.source.files it.script (found it) rows table →
      IsAsMeant before.source.files it.script (found it) rows table
  pub sound : IsSome before.source.files → TellsSoundEntries cache → TellsSoundEntries later
  -- the source tells what it told, the cache tells where it told, no count of failures falls, and
  -- what hosts tell only grows
  pub kept : Keeps before after
  pub tells : is_some later.entries ≡ is_some cache.entries
  pub rises : cache.faults ≤ later.faults
  -- no file is left begun
  pub ended : before.shelf.begun ≡ false → IsEnded status after.shelf
  pub left : before.shelf.begun ≡ false → after.shelf.left ≡ before.shelf.left
