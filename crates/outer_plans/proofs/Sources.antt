-- A plan from outside that was checked against a script's graph means it. It has as many sources.
use Rattle.std.proofs.Common.{◌≡◌, ℕ, List, Result, Ok, Err, ap}
use Rattle.std.specs.Prelude.{IfOk}
use Rattle.exec_graph.specs.Typing.{IsTyped, Signatures}
use Rattle.exec_graph.specs.World.{World}
use Rattle.exec_graph.specs.declared.graph.Graph.{Graph}
use Rattle.exec_plan.specs.Typing.{IsPlanTyped}
use Rattle.exec_plan.specs.Wellformed.{IsPlanOk}
use Rattle.exec_plan.specs.declared.plan.Plan.{Plan}
use Rattle.plan_laws.specs.Operations.{SamePlan}
use Rattle.plan_texts.specs.of_graph_build.Graphs.{graph_of}
use Rattle.plan_texts.specs.of_script_program.Script.{Script}
use Rattle.script_plans.proofs.Meant.{means_graph}
use Rattle.script_plans.specs.Plans.{MeansGraph}
use Rattle.script_plans.specs.of_optimise.Optimised.{source_count}
use Rattle.script_plans.specs.of_script_laws.WellFormed.{IsWellFormed}
use Rattle.plan_tracing.specs.of_plan_check.Checked.{IsChecked}
use Rattle.plan_faults.specs.declared.fault.PlanFault.{PlanFault}
use Rattle.plan_writing.specs.Naming.{Naming}

its_sources : (names : Naming) (g : Graph) (bytes : List ℕ) (r : Result Plan PlanFault)
    → IsChecked names g bytes r → IfOk r (λ (plan : Plan). plan.sources ≡ source_count g.nodes)
its_sources names g bytes (Ok plan) it = ap (λ (p : Plan). p.sources) it.0.forms.formed.plan
its_sources names g bytes (Err fault) it = tt

pub checked_means : (script : Script) (names : Naming) (g : Graph) (bytes : List ℕ)
    (r : Result Plan PlanFault) → g ≡ graph_of script → IsWellFormed script
    → IsChecked names g bytes r → IfOk r (λ (plan : Plan). IsPlanOk plan)
    → IfOk r (λ (plan : Plan). (w : World) → SamePlan w g plan)
    → IfOk r (λ (plan : Plan). (s : Signatures) → IsTyped s g → IsPlanTyped s plan)
    → IfOk r (MeansGraph script)
checked_means script names g bytes (Ok plan) is well it ok same types =
    means_graph script g plan is well ok same types (its_sources names g bytes (Ok plan) it)
checked_means script names g bytes (Err fault) is well it ok same types = tt
