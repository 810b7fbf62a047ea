-- The plan that a run carries out: the script's own, or that of a file.
use Rattle.std.specs.Prelude.{ℕ, List, Option, Some, None, ⊤}
use Rattle.exec_plan.specs.declared.plan.Plan.{Plan}
use Rattle.outer_plans.specs.Plans.{IsNotTaken, IsTaken}
use Rattle.outside.specs.declared.file.File.{File}
use Rattle.run_texts.specs.declared.status.Status.{Status}
use Rattle.run_texts.specs.declared.status.Status.TheVariants.{PlanRefused}
use Rattle.outside.specs.Seen.{SeenSource}
use Rattle.script_loading.specs.Causes.{IsLoadCause}
use Rattle.script_loading.specs.Limits.{plan_limit}
use Rattle.script_loading.specs.Loads.{Loads}
use Rattle.outer_plans.specs.of_script_plans.Plans.{IsScriptPlan}
use Rattle.script_program.specs.Script.{Script}

-- where no file is named it is what the optimiser makes of the script's graph, and else the plan of
-- the file, whose rewrites lead from that graph to it
abbrev pub IsPlanFor : Option (List File) → Script → Option (List ℕ) → Plan → Type 0
IsPlanFor told script None plan = IsScriptPlan script plan
IsPlanFor told script (Some name) plan =
    (bytes : List ℕ) × Loads told name plan_limit bytes × IsTaken script bytes plan

-- the file of a plan, where one is named, is there and is taken
abbrev pub HasPlan : Option (List File) → Script → Option (List ℕ) → Type 0
HasPlan told script None = ⊤
HasPlan told script (Some name) = (plan : Plan) × IsPlanFor told script (Some name) plan

-- why the file of a plan gives none, where the answer is this one: it was not loaded in so many
-- tries, or its bytes are refused
abbrev pub IsFileCause : ℕ → SeenSource → SeenSource → Script → List ℕ → Status
    → Type 0
IsFileCause tries before after script name (PlanRefused step kind) =
    (bytes : List ℕ) × Loads before.files name plan_limit bytes
    × IsNotTaken script bytes step kind
IsFileCause tries before after script name status =
    IsLoadCause tries before after name plan_limit status
