-- What means a graph means the script whose execution graph it is.
use Rattle.std.proofs.Common.{◌≡◌, ◌∙◌, subst}
use Rattle.build_law.specs.of_graph_build.Graphs.{graph_of}
use Rattle.build_law.specs.of_script_laws.WellFormed.{IsWellFormed}
use Rattle.build_law.specs.of_script_program.Script.{Script}
use Rattle.exec_graph.specs.Typing.{IsTyped, Signatures}
use Rattle.exec_graph.specs.World.{World}
use Rattle.exec_graph.specs.declared.graph.Graph.{Graph}
use Rattle.exec_plan.specs.Typing.{IsPlanTyped}
use Rattle.exec_plan.specs.Wellformed.{IsPlanOk}
use Rattle.exec_plan.specs.declared.plan.Plan.{Plan}
use Rattle.optimise.specs.Optimised.{source_count}
use Rattle.plan_laws.specs.Operations.{SamePlan}
use Rattle.script_plans.specs.Plans.{MeansGraph}
use Rattle.script_plans.proofs.Sourced.{sources_counted}

pub means_graph : (script : Script) (graph : Graph) (plan : Plan) → graph ≡ graph_of script
    → IsWellFormed script → IsPlanOk plan → ((w : World) → SamePlan w graph plan)
    → ((s : Signatures) → IsTyped s graph → IsPlanTyped s plan)
    → plan.sources ≡ source_count graph.nodes → MeansGraph script plan
means_graph script graph plan is well ok same types sources = record {
  well_formed = ok;
  same = λ w. subst (λ (g : Graph). SamePlan w g plan) is (same w);
  types = λ s. subst (λ (g : Graph). IsTyped s g → IsPlanTyped s plan) is (types s);
  sources =
      subst (λ (g : Graph). plan.sources ≡ source_count g.nodes) is sources
      ∙ sources_counted script well;
}
