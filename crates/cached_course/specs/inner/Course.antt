-- What a run comes to before anything is written.
use Rattle.std.specs.Prelude.{◌≡◌, ◌⊎◌, ◌++◌, ℕ, List, [], Option, Some, Result, codes, length, map}
use Rattle.std.specs.List.{AllByRecursion, AllZip, Contains}
use Rattle.cache_store.specs.Seen.{SeenCache}
use Rattle.run_course.specs.of_build_law.Worlds.{script_world}
use Rattle.cache_store.specs.declared.entry.CacheEntry.{CacheEntry}
use Rattle.outside.specs.Accounts.{Account}
use Rattle.kept_results.specs.of_direct_meaning.Direct.{meaning, sizes_of, traps_of}
use Rattle.exec_plan.specs.declared.plan.Plan.{Plan}
use Rattle.flume_collection.specs.declared.trap.Trap.{Trap}
use Rattle.flume_value.specs.Ranges.{IsHeld}
use Rattle.flume_value.specs.declared.value.Value.{Value}
use Rattle.kept_results.specs.Lists.{found_of, rows_for_script, input_numbers, later_of}
use Rattle.kept_results.specs.Sizes.{size_pairs, nodes_needed, sizes_kept, sizes_told}
use Rattle.outside.specs.Saves.{HasFiles}
use Rattle.outside.specs.Says.{HasLine}
use Rattle.outside.specs.Seen.{SeenScreen, SeenShelf, SeenSource}
use Rattle.outside.specs.declared.file.File.{File}
use Rattle.outside.specs.declared.host.Phase.{Phase}
use Rattle.plan_phases.specs.Told.{IsGivenUp}
use Rattle.run_course.specs.Answers.{FailsAtFile, HasShown, IsCause, IsCutOff, IsFirstOfPlan, name_at}
use Rattle.run_course.specs.Lent.{lent}
use Rattle.run_course.specs.Written.{AllTasksRan, CollectionTable, files_of, text_shown}
use Rattle.run_course.specs.inner.Course.{IsRunStop, MayHaveCome}
use Rattle.run_course.specs.declared.stop.Stop.{Stop}
use Rattle.run_course.specs.declared.stop.Stop.TheVariants.{Refused, Trapped}
use Rattle.run_settings.specs.Settings.{RunSettings}
use Rattle.run_texts.specs.Lines.{line_of}
use Rattle.run_texts.specs.Texts.{size_lines}
use Rattle.run_texts.specs.declared.status.Place.TheVariants.{File as AtFile, Screen}
use Rattle.run_texts.specs.declared.status.Status.{Status}
use Rattle.run_texts.specs.declared.status.Status.TheVariants.{Done, GaveUp, WantOfMemory, WriteFault}
use Rattle.saved_results.specs.declared.saved.Saved.{Saved}
use Rattle.run_course.specs.of_script_plans.Plans.{IsScriptPlan}
use Rattle.script_program.specs.Script.{Script}
use Rattle.run_course.specs.of_script_run.Comes.{AreMembersOf}
use Rattle.run_course.specs.of_script_run.Runs.{AsksSomePhases, phases_of}
use Rattle.cached_course.specs.Answers.{AsksRun, HasLooked, IsRunning, found, lists_run, script_run}
use Rattle.cached_course.specs.Kept.{HasKept, entries_kept, value_kept}
use Rattle.cached_course.specs.Looked.{WereLooked, not_found}
use Rattle.cached_course.specs.Reused.{WritesReused}
use Rattle.cached_course.specs.declared.looking.LookedUp.{LookedUp}
use Rattle.cached_course.specs.declared.saving.Given.{Given}
use Rattle.cached_course.specs.inner.Found.{IsApart}
use Rattle.cached_course.specs.inner.Missing.{AreMissing, entry_of, kept_value}

-- What goes on of what was looked for: what was found is taken apart, and so is what was not; all
-- collections that the script needs, and the numbers of its inputs.
pub record GoesOn (script : Script) (asked : List (ℕ × List ℕ)) (looked : List (Option Saved))
    (it : LookedUp) : Type 0 where
  pub found : IsApart script (found_of asked looked) it.found
  pub missing : AreMissing script (not_found asked looked) it.missing.items
  pub needed : it.needed.items ≡ nodes_needed script
  pub inputs : it.inputs.items ≡ input_numbers script

-- These were looked for in the cache, and that goes on of them.
pub record WasLookedUp (script : Script) (asked : List (ℕ × List ℕ)) (before after : SeenCache)
    (it : LookedUp) : Type 0 where
  pub looked : List (Option Saved)
  pub was : WereLooked script asked looked before after
  pub goes : GoesOn script asked looked it

-- What is given to a run of a script over these rows, of which these collections are asked for:
-- the script in which what was found is kept, and what goes on with it.
pub record WasGiven (script : Script) (asked : List (ℕ × List ℕ)) (rows : List (List Value))
    (before after : SeenCache) (given : Given) : Type 0 where
  pub looked : List (Option Saved)
  pub was : WereLooked script asked looked before after
  pub program : given.program.script ≡ later_of script (found_of asked looked)
  pub lists : given.lists ≡ rows_for_script script (found_of asked looked) rows
  pub known : given.known.items ≡ sizes_kept script (found_of asked looked)
  pub missing : AreMissing script (not_found asked looked) given.missing.items
  pub needed : given.needed.items ≡ nodes_needed script

-- ---- the run of what was given

-- what is known of sizes, and behind it what a run has counted of the collections that it needs
abbrev pub counted_too : Script → List (ℕ × ℕ) → List (List ℕ × ℕ) → List (ℕ × ℕ)
counted_too script known ran =
    known ++ size_pairs (nodes_needed script) (map (λ line. line.1) ran)

-- what is known of sizes where what was given means this table
abbrev pub known_by : Given → CollectionTable → List (ℕ × ℕ)
known_by given table =
    counted_too given.program.script given.known.items (sizes_of given.program.script table)

-- What was given was run: it means this table, without a trap, and these are the files, the text
-- and what is kept. Each task of its plan was run on these hosts.
pub record WasRun (s : RunSettings) (given : Given) (olds news : List Account) (files : List File)
    (text : List ℕ) (kept : List CacheEntry) : Type 0 where
  pub table : CollectionTable
  pub plan : Plan
  pub written : List (List Value)
  pub means : meaning given.program.script given.lists ≡ Some table
  pub through : traps_of table ≡ []
  pub planned : IsScriptPlan given.program.script plan
  pub are : AllZip (λ output members. AreMembersOf table output.1.reads members)
      given.program.script.outputs written
  pub has_files : files_of table given.program.script.outputs ≡ Some files
  pub shown : text
      ≡ text_shown given.program.script plan
      ++ (size_lines (sizes_told (known_by given table) given.needed.items) ++ codes "done\n")
  pub keeps : kept
      ≡ map (entry_of given.program.script (known_by given table) written) given.missing.items
  pub held : AllByRecursion
      (λ it. IsHeld (kept_value given.program.script (known_by given table) written it))
      given.missing.items
  pub ran : AllTasksRan s given.program.script given.lists plan olds news

-- why the run of what was given writes nothing: no memory was found, or its plan came to no end
abbrev pub StopsRun : RunSettings → Given → List Account → List Account → Stop → Type 0
StopsRun s given olds news why =
    (why ≡ Refused WantOfMemory)
    ⊎ ((plan : Plan) × IsScriptPlan given.program.script plan
    × IsRunStop s given.program.script given.lists plan olds news why)

-- its plan has a list for each source, and some front of its phases was asked for
abbrev pub AsksPhases : RunSettings → Given → List Account → List Account → Type 0
AsksPhases s given olds news =
    (plan : Plan) × IsScriptPlan given.program.script plan
    × (plan.sources ≡ length given.lists)
    × AsksSomePhases s (phases_of s given.program.script given.lists plan) olds news

-- ---- the run of a script

-- it writes these files and this text, and keeps these entries
pub record IsPrepared (words : List (List ℕ)) (told : Option (List File))
    (olds news : List Account) (cache later : SeenCache) (files : List File) (text : List ℕ)
    (kept : List CacheEntry) : Type 0 where
  pub it : HasLooked words told cache later
  pub table : CollectionTable
  pub writes : WritesReused it.settings told olds news it.script (found it) files text table
  pub keeps : kept ≡ entries_kept it.script it.asked it.looked table
  pub held : AllByRecursion (λ one. IsHeld (value_kept it.script (found it) table one.0))
      (not_found it.asked it.looked)

module _ (words : List (List ℕ)) (before after : SeenSource) (olds news : List Account)
    (cache later : SeenCache) where
  abbrev pub GivesUp : ℕ → Phase → ℕ → Type 0
  GivesUp stage phase task =
      (run : IsRunning words before.files cache later)
      × IsGivenUp run.it.settings.tries run.it.settings.drill
      (script_world (script_run run.it) (lists_run run.it run.rows))
      (phases_of run.it.settings (script_run run.it) (lists_run run.it run.rows) run.plan)
      (lent run.it.settings olds) (lent run.it.settings news) stage phase task

  abbrev pub Traps : Trap → List ℕ → Type 0
  Traps trap name =
      (run : IsRunning words before.files cache later) × Contains (traps_of run.table) trap
      × IsFirstOfPlan run.it.settings (script_run run.it) (lists_run run.it run.rows) run.plan
      (lent run.it.settings olds) (lent run.it.settings news) trap
      × (name_at run.it.script trap.origin ≡ Some name)

  -- why it writes nothing
  abbrev pub IsStop : Stop → Type 0
  IsStop (Refused (GaveUp stage phase task)) = GivesUp stage phase task
  IsStop (Refused status) = IsCause words before after olds news status
  IsStop (Trapped trapped) = Traps trapped.trap trapped.name

-- what hosts were asked for in a call with these words, by what comes of it: nothing, or the phases
-- of a run
abbrev pub AsksHostsInCall : {T : Type 0} → List (List ℕ) → Option (List File) → List Account
    → List Account → SeenCache → SeenCache → Result T Stop → Type 0
AsksHostsInCall words told olds news cache later r =
    (olds ≡ news) ⊎ (MayHaveCome r × AsksRun words told olds news cache later)

-- ---- what is left

-- what is left where a run came to the writing of these files and this text, and to the keeping of
-- these entries
module _ (files : List File) (text : List ℕ) (kept : List CacheEntry) (shelf shelf' : SeenShelf)
    (screen screen' : SeenScreen) (cache later : SeenCache) where
  abbrev pub DeliversKept : Status → Type 0
  DeliversKept Done =
      HasFiles files shelf shelf' × HasKept kept cache later × HasShown text screen screen'
  DeliversKept (WriteFault (AtFile name)) =
      FailsAtFile name files shelf shelf' × (later ≡ cache)
      × HasLine (line_of (WriteFault (AtFile name))) screen screen'
  DeliversKept (WriteFault Screen) =
      HasFiles files shelf shelf' × HasKept kept cache later × IsCutOff text screen screen'
  DeliversKept status = ⊥
