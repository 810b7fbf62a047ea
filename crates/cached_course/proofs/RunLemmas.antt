-- The run of what was given is the run of the script in which what was found is kept.
use Rattle.std.proofs.Common.{◌≡◌, ◌∙◌, ℕ, List, ◌++◌, map, Option, Some, sym, subst, codes}
use Rattle.std.specs.List.{AllByRecursion as Each, AllZip}
use Rattle.cache_store.specs.declared.entry.CacheEntry.{CacheEntry}
use Rattle.outside.specs.Accounts.{Account}
use Rattle.exec_plan.specs.declared.plan.Plan.{Plan}
use Rattle.flume_value.specs.Ranges.{IsHeld}
use Rattle.flume_value.specs.declared.value.Value.{Value}
use Rattle.kept_results.specs.Lists.{found_of, rows_for_script, later_of}
use Rattle.kept_results.specs.Sizes.{size_pairs, nodes_needed, sizes_told}
use Rattle.kept_results.specs.of_direct_meaning.Direct.{meaning, sizes_of}
use Rattle.kept_results.specs.of_direct_meaning.Inputs.{inputs_of}
use Rattle.kept_results.proofs.FoundLemmas.{IsRead, firsts}
use Rattle.outside.specs.declared.file.File.{File}
use Rattle.run_course.specs.Lent.{lent}
use Rattle.run_course.specs.Written.{AllTasksRan, CollectionTable, files_of, text_shown}
use Rattle.run_course.specs.of_script_run.Comes.{AreMembersOf}
use Rattle.run_course.specs.of_script_loading.Loads.{AllHaveRows}
use Rattle.run_course.specs.of_script_plans.Plans.{IsScriptPlan}
use Rattle.run_settings.specs.Settings.{RunSettings}
use Rattle.run_texts.specs.Texts.{size_lines}
use Rattle.script_program.specs.Script.{Script}
use Rattle.cache_store.specs.Seen.{SeenCache}
use Rattle.cached_course.specs.Kept.{entries_kept, value_kept}
use Rattle.cached_course.specs.Looked.{not_found}
use Rattle.cached_course.specs.Reused.{Found, IsReused, WritesReused, known}
use Rattle.cached_course.specs.declared.saving.Given.{Given}
use Rattle.cached_course.specs.inner.Course.{WasGiven, WasRun, known_by}
use Rattle.cached_course.specs.declared.missing.Missing.{Missing}
use Rattle.cached_course.specs.inner.Missing.{entry_of, kept_value}
use Rattle.cached_course.proofs.MissingLemmas.{entries_are, held_are, not_found_each}

module _ (told : Option (List File)) (script : Script) (asked : List (ℕ × List ℕ))
    (rows : List (List Value)) (cache later : SeenCache) (given : Given)
    (is : WasGiven script asked rows cache later given) where
  -- what was found, and the script in which that is kept
  abbrev pub found_here : Found
  found_here = found_of asked is.looked

  abbrev pub script_here : Script
  script_here = later_of script found_here

  abbrev pub lists_here : List (List Value)
  lists_here = rows_for_script script found_here rows

  means_here : (table : CollectionTable) → meaning given.program.script given.lists ≡ Some table
      → meaning script_here lists_here ≡ Some table
  means_here table means = (λ i. meaning (sym is.program i) (sym is.lists i)) ∙ means

  pub reused : (table : CollectionTable) → AllHaveRows told (inputs_of script) rows
      → meaning given.program.script given.lists ≡ Some table
      → IsReused told script found_here rows table
  reused table have means = record { inputs = have; means = means_here table means }

  pub planned_here : (plan : Plan) → IsScriptPlan given.program.script plan
      → IsScriptPlan script_here plan
  planned_here plan planned = subst (λ (s : Script). IsScriptPlan s plan) is.program planned

  known_same : (table : CollectionTable) → known_by given table ≡ known script found_here table
  known_same table =
      λ i. is.known i
      ++ size_pairs (nodes_needed (is.program i))
      (map (λ (line : List ℕ × ℕ). line.1) (sizes_of (is.program i) table))

  ran_here : (s : RunSettings) (plan : Plan) (olds news : List Account)
      → AllTasksRan s given.program.script given.lists plan olds news
      → AllTasksRan s script_here lists_here plan olds news
  ran_here s plan olds news ran =
      subst (λ (l : List (List Value)). AllTasksRan s script_here l plan olds news) is.lists
      (subst (λ (x : Script). AllTasksRan s x given.lists plan olds news) is.program ran)

  -- what it writes
  pub writes_here : (s : RunSettings) (olds news : List Account) (files : List File)
      (text : List ℕ) (kept : List CacheEntry) → AllHaveRows told (inputs_of script) rows
      → (run : WasRun s given (lent s olds) (lent s news) files text kept)
      → WritesReused s told olds news script found_here files text run.table
  writes_here s olds news files text kept have run = record {
    plan = run.plan;
    rows = rows;
    planned = planned_here run.plan run.planned;
    through = record {
      meant = reused run.table have run.means;
      through = run.through;
      written = (λ i. files_of run.table (sym is.program i).outputs) ∙ run.has_files;
      shown = run.shown
          ∙ (λ i. text_shown (is.program i) run.plan
          ++ (size_lines (sizes_told (known_same run.table i) (is.needed i)) ++ codes "done\n"));
    };
    ran = ran_here s run.plan (lent s olds) (lent s news) run.ran;
  }

  -- and what it keeps
  pub keeps_here : (s : RunSettings) (olds news : List Account) (files : List File)
      (text : List ℕ) (kept : List CacheEntry) → Each (IsRead script.outputs) (firsts asked)
      → (run : WasRun s given olds news files text kept)
      → kept ≡ entries_kept script asked is.looked run.table
  keeps_here s olds news files text kept read run =
      run.keeps
      ∙ (λ i. map (entry_of (is.program i) (known_same run.table i) run.written)
      given.missing.items)
      ∙ entries_are script_here script (known script found_here run.table) run.written run.table
      (subst
      (λ (x : Script). AllZip (λ output members. AreMembersOf run.table output.1.reads members)
      x.outputs run.written) is.program run.are)
      (not_found asked is.looked) given.missing.items is.missing
      (not_found_each (IsRead script.outputs) asked is.looked read)

  -- which a program holds
  pub held_here : (s : RunSettings) (olds news : List Account) (files : List File)
      (text : List ℕ) (kept : List CacheEntry) → Each (IsRead script.outputs) (firsts asked)
      → (run : WasRun s given olds news files text kept)
      → Each (λ (one : ℕ × List ℕ). IsHeld (value_kept script found_here run.table one.0))
      (not_found asked is.looked)
  held_here s olds news files text kept read run =
      held_are script_here script (known script found_here run.table) run.written run.table
      (subst
      (λ (x : Script). AllZip (λ output members. AreMembersOf run.table output.1.reads members)
      x.outputs run.written) is.program run.are)
      (not_found asked is.looked) given.missing.items is.missing
      (not_found_each (IsRead script.outputs) asked is.looked read)
      (subst (λ (k : List (ℕ × ℕ)). Each (λ (it : Missing).
      IsHeld (kept_value script_here k run.written it)) given.missing.items)
      (known_same run.table)
      (subst (λ (x : Script). Each (λ (it : Missing).
      IsHeld (kept_value x (known_by given run.table) run.written it)) given.missing.items)
      is.program run.held))
