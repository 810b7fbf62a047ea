-- What is told of a plan from outside.
use Rattle.std.specs.Prelude.{◌≡◌, ℕ, ◌+◌, List, length, Some, Result, Ok, Err}
use Rattle.serde_json.specs.Written.{compact_text}
use Rattle.exec_graph.specs.declared.graph.Blocked.{Blocked}
use Rattle.exec_graph.specs.declared.graph.Graph.{Graph}
use Rattle.exec_plan.specs.declared.plan.Plan.{Plan}
use Rattle.optimise.specs.of_form_laws.Formed.{IsFormed}
use Rattle.fusion_blocks.specs.Blocks.{unmarked}
use Rattle.graph_rewrites.specs.Replays.{Leads, StopsAt}
use Rattle.graph_rewrites.specs.declared.rewrite.Rewrite.{Rewrite}
use Rattle.optimise.specs.Optimised.{source_count}
use Rattle.plan_files.specs.Reads.{HasNoShape, IsFile, IsNoJson}
use Rattle.plan_files.specs.declared.file.PlanFile.{PlanFile}
use Rattle.plan_json.specs.PlanJson.{plan_json_of}
use Rattle.plan_writing.specs.Naming.{Naming}
use Rattle.plan_faults.specs.declared.fault.PlanFault.{PlanFault}
use Rattle.plan_faults.specs.declared.fault.PlanFault.TheVariants.{Refused, Memory}
use Rattle.plan_faults.specs.declared.fault.PlanKind.{PlanKind}
use Rattle.plan_faults.specs.declared.fault.PlanKind.TheVariants.{NotJson, Shape, BadStep, Differs}

-- the file has no number in its plan, whose compact text is that of the other
abbrev pub HasText : Naming → PlanFile → Plan → Type 0
HasText names file plan = file.plan ≡ Some (compact_text (plan_json_of names plan))

-- the rewrites lead from the graph to one of which the plan is formed
pub record Forms (g : Graph) (rs : List Rewrite) (plan : Plan) : Type 0 where
  pub blocked : Blocked
  pub leads : Leads 0 rs (unmarked g) blocked
  pub formed : IsFormed (source_count g.nodes) blocked plan

-- so do those of the file that the bytes are
pub record IsLedTo (g : Graph) (bytes : List ℕ) (plan : Plan) : Type 0 where
  pub file : PlanFile
  pub is_file : IsFile bytes file
  pub forms : Forms g file.rewrites plan

-- the rewrite of that number is the first that may not be made
pub record StopsAtRewrite (g : Graph) (bytes : List ℕ) (step : ℕ) : Type 0 where
  pub file : PlanFile
  pub is_file : IsFile bytes file
  pub stops : StopsAt 0 file.rewrites (unmarked g) step

-- the plan that is formed has another text than that of the file
pub record IsOther (names : Naming) (g : Graph) (bytes : List ℕ) (step : ℕ) : Type 0 where
  pub plan : Plan
  pub led : IsLedTo g bytes plan
  pub behind : step ≡ length led.file.rewrites + 1
  pub other : HasText names led.file plan → ⊥

-- the bytes are refused so
abbrev pub IsRefusedPlan : Naming → Graph → List ℕ → ℕ → PlanKind → Type 0
IsRefusedPlan names g bytes step NotJson = (step ≡ 0) × IsNoJson bytes
IsRefusedPlan names g bytes step Shape = (step ≡ 0) × HasNoShape bytes
IsRefusedPlan names g bytes step BadStep = StopsAtRewrite g bytes step
IsRefusedPlan names g bytes step Differs = IsOther names g bytes step

-- it is told so of a graph and the bytes of a file: the plan, or why it is refused
abbrev pub IsChecked : Naming → Graph → List ℕ → Result Plan PlanFault → Type 0
IsChecked names g bytes (Ok plan) =
    (led : IsLedTo g bytes plan) × HasText names led.file plan
IsChecked names g bytes (Err (Refused step kind)) = IsRefusedPlan names g bytes step kind
IsChecked names g bytes (Err Memory) = Unit {0}

-- it is told so of a graph and rewrites: the plan, or the first rewrite that may not be made
abbrev pub IsFormedOf : Graph → List Rewrite → Result Plan PlanFault → Type 0
IsFormedOf g rs (Ok plan) = Forms g rs plan
IsFormedOf g rs (Err (Refused step NotJson)) = ⊥
IsFormedOf g rs (Err (Refused step Shape)) = ⊥
IsFormedOf g rs (Err (Refused step BadStep)) = StopsAt 0 rs (unmarked g) step
IsFormedOf g rs (Err (Refused step Differs)) = ⊥
IsFormedOf g rs (Err Memory) = Unit {0}

-- ---- of parts

-- it is refused behind its rewrites
abbrev pub IsBehind : PlanFile → PlanFault → Type 0
IsBehind file (Refused step NotJson) = ⊥
IsBehind file (Refused step Shape) = ⊥
IsBehind file (Refused step BadStep) = ⊥
IsBehind file (Refused step Differs) = step ≡ length file.rewrites + 1
IsBehind file Memory = Unit {0}

-- the file has the text of the plan, or it has another and is refused
abbrev pub IsCompared : Naming → PlanFile → Plan → Result Plan PlanFault → Type 0
IsCompared names file plan (Ok p) = HasText names file plan
IsCompared names file plan (Err Memory) = Unit {0}
IsCompared names file plan (Err (Refused step kind)) =
    IsBehind file (Refused step kind) × (HasText names file plan → ⊥)
