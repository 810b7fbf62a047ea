use Rattle.std.proofs.Common.{sym, ap, ◌∙◌, arith}
use denote.Param.Weighed.{most}
use Rattle.graph_laws.specs.of_exec_graph.declared.step.Step.TheDeep.{deep-Output}
use Rattle.graph_walks.specs.inner.Plants.{on_branches}
use Rattle.graph_walks.proofs.Falling.{more_fall}
use Rattle.graph_walks.proofs.PlantTurns.{twig_on}
use Rattle.graph_walks.proofs.finding.+find.Goals as goal

pub on_output-returns : goal.on_output-returns
on_output-returns t c =
    let o = c.args.one.now in
    twig_on c.args.output o.number o.kids.items _ (sym c.is_out.ensures ∙ c.if-is_out.false)
    (c.on_steps.ensures ∙ ap (on_branches c.args.output) c.as_slice.ensures.value)

pub on_step-on_outputs-requires : goal.on_step-on_outputs-requires
on_step-on_outputs-requires t c =
    let more = ap (most deep-Output) c.as_slice.ensures.value in (
      omega (arith, c.decreases, more, more_fall c.step.inside _ c.step.view_is),
      tt,
    )
