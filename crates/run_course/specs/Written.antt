-- What a command writes where no trap is met: its files, and the text of the screen.
use Rattle.std.specs.Prelude.{◌≡◌, ℕ, List, [], ◌∷◌, ◌++◌, Option, Some, codes, option_and_then}
use Rattle.std.specs.Option.{option_map}
use Rattle.outside.specs.Accounts.{Account}
use Rattle.csv_rows.specs.Text.{table_text}
use Rattle.script_loading.specs.of_direct_meaning.Direct.{made_at, meaning, sizes_of, traps_of}
use Rattle.script_loading.specs.of_direct_meaning.Inputs.{inputs_of}
use Rattle.flume_collection.specs.Collection.{Collection}
use Rattle.flume_value.specs.declared.value.Value.{Value}
use Rattle.script_loading.specs.of_graph_build.Graphs.{graph_of}
use Rattle.outer_plans.specs.of_graph_rewrites.declared.rewrite.Rewrite.{Rewrite}
use Rattle.outer_plans.specs.Plans.{IsTaken, LeadTo, StandInOrder, file_text_of}
use Rattle.outside.specs.declared.file.File.{File}
use Rattle.plan_phases.specs.declared.winners.PhaseWinners.{PhaseWinners}
use Rattle.outer_plans.specs.of_graph_print.GraphText.{graph_text}
use Rattle.run_settings.specs.Settings.{RunSettings}
use Rattle.exec_plan.specs.declared.plan.Plan.{Plan}
use Rattle.outer_plans.specs.of_plan_texts.Texts.{plan_json_of, plan_text_of}
use Rattle.run_texts.specs.Texts.{size_lines}
use Rattle.outer_plans.specs.of_script_plans.Plans.{IsScriptPlan}
use Rattle.script_run.specs.Runs.{AsksAllPhases, WereRun, phases_of}
use Rattle.serde_json.specs.Written.{compact_text}
use Rattle.script_program.specs.declared.made.Output.{Output}
use Rattle.script_program.specs.Script.{Script}
use Rattle.script_loading.specs.Loads.{AllHaveRows}
use Rattle.run_course.specs.Asked.{AskOn}
use Rattle.run_course.specs.Lent.{lent}
use Rattle.run_course.specs.Plans.{IsPlanFor}
use Rattle.command_words.specs.declared.words.Command.{Command}
use Rattle.command_words.specs.declared.words.Command.TheVariants.{Check, Plan as Show, Direct, Run}
use Rattle.command_words.specs.declared.words.PlanForm.{PlanForm}
use Rattle.command_words.specs.declared.words.PlanForm.TheVariants.{Text, Json, Rewrites}

-- the collections of a script by their numbers, where they are made
abbrev pub CollectionTable : Type 0
CollectionTable = List (Option Collection)

-- an output's file: the sorted text of the collection that it reads, under its columns
abbrev pub file_of : CollectionTable → List ℕ × Output → Option File
file_of table output =
    option_map
    (λ collection.
    record { name = output.0; bytes = table_text output.1.columns collection.bag })
    (made_at table output.1.reads)

-- the files of outputs that read these collections
abbrev pub files_of : CollectionTable → List (List ℕ × Output) → Option (List File)
files_of table [] = Some []
files_of table (output ∷ outputs) =
    option_and_then (λ file. option_map (λ files. file ∷ files) (files_of table outputs))
    (file_of table output)

-- The needed inputs of a script have these rows, and over them it means these collections.
pub record IsMeant (told : Option (List File)) (script : Script) (rows : List (List Value))
    (table : CollectionTable) : Type 0 where
  pub inputs : AllHaveRows told (inputs_of script) rows
  pub means : meaning script rows ≡ Some table

-- The same, without a trap: the files of the outputs, and a text of the sizes behind another text.
pub record IsThrough (told : Option (List File)) (script : Script) (front : List ℕ)
    (files : List File) (text : List ℕ) (rows : List (List Value)) (table : CollectionTable)
    : Type 0 where
  pub meant : IsMeant told script rows table
  pub through : traps_of table ≡ []
  pub written : files_of table script.outputs ≡ Some files
  pub shown : text ≡ front ++ (size_lines (sizes_of script table) ++ codes "done\n")

abbrev pub WritesMeaning : Option (List File) → Script → List ℕ → List File → List ℕ → Type 0
WritesMeaning told script front files text =
    (rows : List (List Value)) × (table : CollectionTable)
    × IsThrough told script front files text rows table

-- a plan, shown as text behind the text of the execution graph
abbrev pub text_shown : Script → Plan → List ℕ
text_shown script plan = graph_text script (graph_of script) ++ plan_text_of script plan

-- shown as JSON on a line
abbrev pub json_shown : Script → Plan → List ℕ
json_shown script plan = compact_text (plan_json_of script plan) ++ codes "\n"

-- and as the file of a plan on a line, with rewrites that lead to it
abbrev pub file_shown : Script → List Rewrite → Plan → List ℕ
file_shown script rewrites plan = file_text_of script rewrites plan ++ codes "\n"

-- the text shows the script's plan, and maybe rewrites that lead from the script's graph to it, in
-- the order of the passes: as the file of a plan it is then taken as just that
abbrev pub ShowsPlan : PlanForm → Script → List ℕ → Type 0
ShowsPlan Text script text =
    (plan : Plan) × IsScriptPlan script plan × (text ≡ text_shown script plan)
ShowsPlan Json script text =
    (plan : Plan) × IsScriptPlan script plan × (text ≡ json_shown script plan)
ShowsPlan Rewrites script text =
    (plan : Plan) × (rewrites : List Rewrite) × IsScriptPlan script plan
    × LeadTo script rewrites plan × StandInOrder script rewrites × IsTaken script text plan
    × (text ≡ file_shown script rewrites plan)

-- ---- runs

-- each task of the plan was run over these rows: of each phase there are winners, and the hosts
-- were asked for these phases alone, one behind the other, each in one work, by whose board these
-- are the winners
abbrev pub AllTasksRan : RunSettings → Script → List (List Value) → Plan → List Account
    → List Account → Type 0
AllTasksRan s script rows plan olds news =
    (winners : List PhaseWinners) × WereRun s (phases_of s script rows plan) olds news winners
    × AsksAllPhases s (phases_of s script rows plan) winners olds news

-- What a run writes and leaves: the files of its script's direct meaning; its graph and the plan
-- that it carries out, the sizes of its collections and `done`. Each task of the plan was run on
-- the lent hosts.
abbrev pub WritesRun : RunSettings → Option (List ℕ) → Option (List File) → List Account
    → List Account → Script → List File → List ℕ → Type 0
WritesRun s from told olds news script files text =
    (plan : Plan) × (rows : List (List Value)) × (table : CollectionTable)
    × IsPlanFor told script from plan
    × IsThrough told script (text_shown script plan) files text rows table
    × AllTasksRan s script rows plan (lent s olds) (lent s news)

-- What a command writes of a script: `check` no file and `ok`; `plan` no file and its plan;
-- `direct` the files of its direct meaning, the sizes of its collections and `done`; `run` the
-- same, with its graph and plan first.
abbrev pub Writes : Command → Option (List File) → List Account → List Account → Script
    → List File → List ℕ → Type 0
Writes Check told olds news script files text = (files ≡ []) × (text ≡ codes "ok\n")
Writes (Show form) told olds news script files text = (files ≡ []) × ShowsPlan form script text
Writes Direct told olds news script files text = WritesMeaning told script [] files text
Writes (Run s from) told olds news script files text =
    WritesRun s from told olds news script files text

-- the words ask for a command that writes these files and this text, and has the hosts gain so much
abbrev pub IsWritten : List (List ℕ) → Option (List File) → List Account → List Account
    → List File → List ℕ → Type 0
IsWritten words told olds news files text =
    (command : Command) × (script : Script) × AskOn words told command script
    × Writes command told olds news script files text
