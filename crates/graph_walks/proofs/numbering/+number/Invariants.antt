use Rattle.std.proofs.Common.{◌+◌, ◌*◌, List, map}
use denote.Param.Weighed.{most}
use Rattle.graph_laws.specs.of_exec_graph.declared.step.Step.TheDeep.{deep-Output}
use Rattle.graph_laws.specs.of_exec_graph.declared.step.Step.TheView.{size}
use Rattle.graph_laws.specs.of_exec_graph.Forests.{Branch}
use Rattle.graph_laws.specs.of_exec_graph.Twigs.{twig}
use Rattle.graph_laws.specs.of_exec_graph.declared.step.Output.{Output}
use Rattle.graph_walks.specs.inner.Numbering.{after_branch, after_twig, branch_outs, numbered_branch, numbered_twig, twig_outs}
use Rattle.graph_walks.proofs.Turns.{AreNumbered}
use Rattle.graph_walks.proofs.numbering.+number.Given as goal

abbrev pub decreases-number_steps : goal.decreases-number_steps
decreases-number_steps l = 4 * most (λ b. size b + 1) l.steps.now.items

abbrev pub decreases-number_step : goal.decreases-number_step
decreases-number_step l = 4 * size l.step.now + 3

abbrev pub decreases-number_outputs : goal.decreases-number_outputs
decreases-number_outputs l = 4 * most deep-Output l.outputs.now.items + 2

abbrev pub decreases-number_output : goal.decreases-number_output
decreases-number_output l = 4 * deep-Output l.output.now + 1

abbrev pub invariant-number_steps-loop-i : goal.invariant-number_steps-loop-i
invariant-number_steps-loop-i l = record {
  numbered : AreNumbered (λ (bs : List Branch). bs) numbered_branch after_branch branch_outs
      l.fn.steps.items l.steps.items l.fn.outs.items l.outs.items l.i;
  left : goal.unvisited-number_steps-loop-i l;
}

abbrev pub invariant-number_outputs-loop-i : goal.invariant-number_outputs-loop-i
invariant-number_outputs-loop-i l = record {
  numbered : AreNumbered (λ (os : List Output). map twig os) numbered_twig after_twig twig_outs
      l.fn.outputs.items l.outputs.items l.fn.outs.items l.outs.items l.i;
  left : goal.unvisited-number_outputs-loop-i l;
}
