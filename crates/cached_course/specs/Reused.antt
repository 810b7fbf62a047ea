-- What a run means and writes that has found these of its collections.
use Rattle.std.specs.Prelude.{◌≡◌, ℕ, List, [], ◌++◌, Option, Some, codes}
use Rattle.outside.specs.Accounts.{Account}
use Rattle.kept_results.specs.of_direct_meaning.Direct.{meaning, sizes_of, traps_of}
use Rattle.kept_results.specs.of_direct_meaning.Inputs.{inputs_of}
use Rattle.exec_plan.specs.declared.plan.Plan.{Plan}
use Rattle.flume_value.specs.declared.value.Value.{Value}
use Rattle.kept_results.specs.Lists.{rows_for_script, later_of}
use Rattle.kept_results.specs.Sizes.{nodes_needed, sizes_known, sizes_told}
use Rattle.outside.specs.declared.file.File.{File}
use Rattle.run_course.specs.Lent.{lent}
use Rattle.run_course.specs.Written.{AllTasksRan, CollectionTable, files_of, text_shown}
use Rattle.run_settings.specs.Settings.{RunSettings}
use Rattle.run_texts.specs.Texts.{size_lines}
use Rattle.saved_results.specs.declared.saved.Saved.{Saved}
use Rattle.run_course.specs.of_script_loading.Loads.{AllHaveRows}
use Rattle.run_course.specs.of_script_plans.Plans.{IsScriptPlan}
use Rattle.script_program.specs.Script.{Script}

-- what was found, by the numbers of its collections
abbrev pub Found : Type 0
Found = List (ℕ × Saved)

-- what is known of sizes: as they were kept, and then as the run gives them
abbrev pub known : Script → Found → CollectionTable → List (ℕ × ℕ)
known script found table = sizes_known script found (sizes_of (later_of script found) table)

-- the sizes of all collections that the script needs, under their names and in order
abbrev pub all_sizes : Script → Found → CollectionTable → List (List ℕ × ℕ)
all_sizes script found table = sizes_told (known script found table) (nodes_needed script)

-- All inputs that the script needs have these rows. Over those that are still needed, and what was
-- found, the script in which that is kept means these collections.
pub record IsReused (told : Option (List File)) (script : Script) (found : Found)
    (rows : List (List Value)) (table : CollectionTable) : Type 0 where
  pub inputs : AllHaveRows told (inputs_of script) rows
  pub means : meaning (later_of script found) (rows_for_script script found rows) ≡ Some table

-- The same, without a trap: the files of the outputs, and a text of all sizes behind another text.
pub record IsThrough (told : Option (List File)) (script : Script) (found : Found)
    (front : List ℕ) (files : List File) (text : List ℕ) (rows : List (List Value))
    (table : CollectionTable) : Type 0 where
  pub meant : IsReused told script found rows table
  pub through : traps_of table ≡ []
  pub written : files_of table script.outputs ≡ Some files
  pub shown : text ≡ front ++ (size_lines (all_sizes script found table) ++ codes "done\n")

-- What such a run writes and leaves: the graph that has what was found as sources, and its plan;
-- then the sizes. Each task of that plan was run on the lent hosts.
pub record WritesReused (s : RunSettings) (told : Option (List File)) (olds news : List Account)
    (script : Script) (found : Found) (files : List File) (text : List ℕ) (table : CollectionTable)
    : Type 0 where
  pub plan : Plan
  pub rows : List (List Value)
  pub planned : IsScriptPlan (later_of script found) plan
  pub through : IsThrough told script found (text_shown (later_of script found) plan) files
      text rows table
  pub ran : AllTasksRan s (later_of script found) (rows_for_script script found rows) plan
      (lent s olds)
      (lent s news)
