use Rattle.std.proofs.Common.{List, map, sym, ap, ◌∙◌, arith}
use denote.Param.Weighed.{most}
use Rattle.exec_graph.specs.Forests.{Branch}
use Rattle.exec_graph.specs.Twigs.{twig}
use Rattle.exec_graph.specs.declared.step.Output.{Output}
use Rattle.exec_graph.specs.declared.step.Step.TheDeep.{deep-Output}
use Rattle.graph_walks.specs.inner.Numbering.{branch_outs, branches_outs, twig_outs, twigs_outs}
use Rattle.graph_walks.proofs.Falling.{more_fall}
use Rattle.graph_walks.proofs.InPlace.{as_held, as_twigs}
use Rattle.graph_joins.specs.inner.Seeks.{seek}
use Rattle.graph_joins.specs.declared.seeking.Sought.TheVariants.{Found, Behind}
use Rattle.graph_joins.proofs.SeekLemmas.{seek_end, seek_more, seek_turn, twig_sought}
use Rattle.graph_joins.proofs.seeking.+seek.Goals as goal

pub seek_steps-loop-step-preserved : goal.seek_steps-loop-step-preserved
seek_steps-loop-step-preserved t c =
    seek_turn (λ (bs : List Branch). bs) (λ (b : Branch). b) as_held branch_outs c.args.steps.now
    c.loop-step.step-index c.loop-step.rest c.step-item.result _ (omega arith) c.step-item.is
    (sym c.in-Behind.is ∙ c.seek_step.ensures) ∙ c.loop-step.invariant

pub seek_steps-returns-in-Found : goal.seek_steps-returns-in-Found
seek_steps-returns-in-Found t c =
    seek_turn (λ (bs : List Branch). bs) (λ (b : Branch). b) as_held branch_outs c.args.steps.now
    c.loop-step.step-index c.loop-step.rest c.step-item.result _ (omega arith) c.step-item.is
    (sym c.in-Found.is ∙ c.seek_step.ensures) ∙ c.loop-step.invariant

pub seek_steps-returns : goal.seek_steps-returns
seek_steps-returns t c =
    seek_end (λ (bs : List Branch). bs) (λ (b : Branch). b) as_held branch_outs c.args.steps.now
    c.loop-step.step-index c.loop-step.rest (omega arith) ∙ c.loop-step.invariant

pub seek_outputs-loop-output-preserved : goal.seek_outputs-loop-output-preserved
seek_outputs-loop-output-preserved t c =
    seek_turn (λ (os : List Output). map twig os) twig as_twigs twig_outs c.args.outputs.now
    c.loop-output.output-index c.loop-output.rest c.output-item.result _ (omega arith)
    c.output-item.is (sym c.in-Behind.is ∙ c.seek_output.ensures) ∙ c.loop-output.invariant

pub seek_outputs-returns-in-Found : goal.seek_outputs-returns-in-Found
seek_outputs-returns-in-Found t c =
    seek_turn (λ (os : List Output). map twig os) twig as_twigs twig_outs c.args.outputs.now
    c.loop-output.output-index c.loop-output.rest c.output-item.result _ (omega arith)
    c.output-item.is (sym c.in-Found.is ∙ c.seek_output.ensures) ∙ c.loop-output.invariant

pub seek_outputs-returns : goal.seek_outputs-returns
seek_outputs-returns t c =
    seek_end (λ (os : List Output). map twig os) twig as_twigs twig_outs c.args.outputs.now
    c.loop-output.output-index c.loop-output.rest (omega arith) ∙ c.loop-output.invariant

pub seek_step-returns-in-Found : goal.seek_step-returns-in-Found
seek_step-returns-in-Found t c =
    let a = c.step.inside in
    seek_more (twig_outs (twig a.first)) (twigs_outs (map twig a.more.items)) c.args.number
    (Found c.in-Found.name) (sym c.in-Found.is ∙ c.seek_output.ensures)
    ∙ ap (λ (b : Branch). seek (branch_outs b) c.args.number) c.step.view_is

pub seek_step-returns-in-Behind : goal.seek_step-returns-in-Behind
seek_step-returns-in-Behind t c =
    let a = c.step.inside in
    c.seek_outputs.ensures
    ∙ ap (λ os. seek (twigs_outs (map twig os)) c.in-Behind.left) c.as_slice.ensures.value
    ∙ seek_more (twig_outs (twig a.first)) (twigs_outs (map twig a.more.items)) c.args.number
    (Behind c.in-Behind.left) (sym c.in-Behind.is ∙ c.seek_output.ensures)
    ∙ ap (λ (b : Branch). seek (branch_outs b) c.args.number) c.step.view_is

pub seek_output-returns-in-Behind : goal.seek_output-returns-in-Behind
seek_output-returns-in-Behind t c =
    let o = c.args.output.now in
    let left = c.in-Behind.left in
    twig_sought o.number o.kids.items c.args.number left _
    (sym c.in-Behind.is ∙ c.seek_out.ensures)
    (c.seek_steps.ensures
    ∙ ap (λ (bs : List Branch). seek (branches_outs bs) left) c.as_slice.ensures.value)

pub seek_step-seek_outputs-requires : goal.seek_step-seek_outputs-requires
seek_step-seek_outputs-requires t c =
    let more = ap (most deep-Output) c.as_slice.ensures.value in (
      omega (arith, c.decreases, more, more_fall c.step.inside _ c.step.view_is),
      tt,
    )
