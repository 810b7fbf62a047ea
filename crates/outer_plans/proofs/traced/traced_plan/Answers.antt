use Rattle.std.proofs.Common.{subst}
use Rattle.std.specs.Prelude.{IfOk}
use Rattle.exec_graph.specs.declared.graph.Graph.{Graph}
use Rattle.plan_tracing.specs.Refined.{IsPassOrder}
use Rattle.plan_tracing.specs.of_plan_check.Checked.{Forms}
use Rattle.outer_plans.proofs.traced.traced_plan.Goals as goal

pub optimise_traced-requires : goal.optimise_traced-requires
optimise_traced-requires c = record {
  ok = c.passes_law.ensures _ _ c.requires.well_formed c.requires.built c.requires.ok;
}

pub returns-clause-leads : goal.returns-clause-leads
returns-clause-leads c =
    subst (λ (g : Graph). IfOk c.optimise_traced.result (λ it. Forms g it.rewrites it.plan))
    c.requires.built c.optimise_traced.ensures.forms

pub returns-clause-order : goal.returns-clause-order
returns-clause-order c =
    subst (λ (g : Graph). IfOk c.optimise_traced.result (λ it. IsPassOrder g it.rewrites))
    c.requires.built c.optimise_traced.ensures.order
