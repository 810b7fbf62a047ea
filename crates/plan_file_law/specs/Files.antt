-- The file of a plan and of rewrites.
use Rattle.std.specs.Prelude.{ℕ, List, Some}
use Rattle.serde_json.specs.Written.{compact_text}
use Rattle.exec_plan.specs.declared.plan.Plan.{Plan}
use Rattle.graph_rewrites.specs.declared.rewrite.Rewrite.{Rewrite}
use Rattle.plan_files.specs.Written.{file_json}
use Rattle.plan_files.specs.declared.file.PlanFile.{PlanFile}
use Rattle.plan_json.specs.PlanJson.{plan_json_of}
use Rattle.plan_writing.specs.Naming.{Naming}

-- its text under these names, without an end of line
abbrev pub plan_file_text : Naming → Plan → List Rewrite → List ℕ
plan_file_text names plan rewrites = compact_text (file_json (plan_json_of names plan) rewrites)

-- what it tells: the rewrites, and the plan's own text
abbrev pub told_by : Naming → Plan → List Rewrite → PlanFile
told_by names plan rewrites = record {
  rewrites = rewrites;
  plan = Some (compact_text (plan_json_of names plan));
}
