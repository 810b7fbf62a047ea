use Rattle.std.proofs.Common.{List, sym, ap, ◌∙◌, subst}
use Rattle.exec_graph.specs.declared.graph.Graph.{Graph}
use Rattle.graph_laws.specs.Lifting.{lifted}
use Rattle.graph_rewrites.specs.declared.rewrite.Rewrite.{Rewrite}
use Rattle.graph_tracing.specs.Traces.{IsTrace}
use Rattle.plan_tracing.specs.Lists.{lifts_in}
use Rattle.plan_tracing.proofs.Lifts.{lifts_traced}
use Rattle.plan_tracing.proofs.lifting.lift_traced.Goals as goal

pub returns-clause-traced : goal.returns-clause-traced
returns-clause-traced c =
    let g : Graph = c.args.graph in
    subst (λ (h : Graph). IsTrace 1 g c.in_ok-rewrites.rewrites h)
    (sym c.in_ok-graph.ensures.lifted)
    (subst (λ (rs : List Rewrite). IsTrace 1 g rs (lifted g))
    (sym (c.in_ok-rewrites.ensures ∙ ap lifts_in c.as_slice.ensures
    ∙ ap (λ (h : Graph). lifts_in h.nodes) c.in_ok-graph.ensures.lifted))
    (lifts_traced g c.requires))

pub returns-clause-lifts : goal.returns-clause-lifts
returns-clause-lifts c = c.in_ok-rewrites.ensures ∙ ap lifts_in c.as_slice.ensures
