-- Plans from outside, and rewrites that lead to plans, as those of a script.
use Rattle.std.specs.Prelude.{ℕ, List, Result, Ok, Err}
use Rattle.serde_json.specs.Written.{compact_text}
use Rattle.exec_plan.specs.declared.plan.Plan.{Plan}
use Rattle.plan_texts.specs.of_graph_build.Graphs.{graph_of}
use Rattle.graph_rewrites.specs.declared.rewrite.Rewrite.{Rewrite}
use Rattle.plan_tracing.specs.of_plan_check.Checked.{Forms, IsChecked}
use Rattle.plan_faults.specs.declared.fault.PlanFault.{PlanFault}
use Rattle.plan_faults.specs.declared.fault.PlanFault.TheVariants.{Refused}
use Rattle.plan_faults.specs.declared.fault.PlanKind.{PlanKind}
use Rattle.plan_tracing.specs.Refined.{IsPassOrder}
use Rattle.plan_tracing.specs.of_plan_files.Written.{file_json}
use Rattle.plan_texts.specs.Texts.{naming_of, plan_json_of}
use Rattle.plan_texts.specs.of_script_program.Script.{Script}

-- it is told so of the bytes of a file as a plan of the script: the plan, or why it is refused
abbrev pub IsAnswer : Script → List ℕ → Result Plan PlanFault → Type 0
IsAnswer script bytes result = IsChecked (naming_of script) (graph_of script) bytes result

-- the bytes tell this plan, and their rewrites lead from the script's execution graph to it
abbrev pub IsTaken : Script → List ℕ → Plan → Type 0
IsTaken script bytes plan = IsAnswer script bytes (Ok plan)

-- the bytes are refused so
abbrev pub IsNotTaken : Script → List ℕ → ℕ → PlanKind → Type 0
IsNotTaken script bytes step kind = IsAnswer script bytes (Err (Refused step kind))

-- the rewrites lead from the script's execution graph to one of which the plan is formed
abbrev pub LeadTo : Script → List Rewrite → Plan → Type 0
LeadTo script rewrites plan = Forms (graph_of script) rewrites plan

-- the rewrites stand in the order in which the passes make them of that graph
abbrev pub StandInOrder : Script → List Rewrite → Type 0
StandInOrder script rewrites = IsPassOrder (graph_of script) rewrites

-- the file of a plan with rewrites, under the names of the script
abbrev pub file_text_of : Script → List Rewrite → Plan → List ℕ
file_text_of script rewrites plan = compact_text (file_json (plan_json_of script plan) rewrites)
