use Rattle.std.proofs.Common.{◌+◌, ◌*◌, List, map}
use denote.Param.Weighed.{most}
use Rattle.graph_laws.specs.of_exec_graph.declared.step.Step.TheDeep.{deep-Output}
use Rattle.graph_laws.specs.of_exec_graph.declared.step.Step.TheView.{size}
use Rattle.graph_laws.specs.of_exec_graph.Forests.{Branch, grown}
use Rattle.graph_laws.specs.of_exec_graph.Twigs.{twig}
use Rattle.graph_laws.specs.of_exec_graph.declared.step.Output.{Output}
use Rattle.graph_walks.specs.inner.Plants.{on_branch, on_twig, put_branch, put_twig}
use Rattle.graph_walks.proofs.PlantTurns.{IsPassed}
use Rattle.graph_walks.proofs.planting.+put.Given as goal

abbrev pub decreases-put_steps : goal.decreases-put_steps
decreases-put_steps l = 4 * most (λ b. size b + 1) l.steps.now.items

abbrev pub decreases-put_step : goal.decreases-put_step
decreases-put_step l = 4 * size l.step.now + 3

abbrev pub decreases-put_outputs : goal.decreases-put_outputs
decreases-put_outputs l = 4 * most deep-Output l.outputs.now.items + 2

abbrev pub decreases-put_output : goal.decreases-put_output
decreases-put_output l = 4 * deep-Output l.one.now + 1

abbrev pub invariant-put_steps-loop-i : goal.invariant-put_steps-loop-i
invariant-put_steps-loop-i l = record {
  passed : IsPassed (λ (bs : List Branch). bs) (on_branch l.output)
      (λ (bs : List Branch). put_branch l.output l.keep (grown bs)) l.fn.steps.items
      l.steps.items l.fn.others.items l.others.items l.i;
  left : goal.unvisited-put_steps-loop-i l;
}

abbrev pub invariant-put_outputs-loop-i : goal.invariant-put_outputs-loop-i
invariant-put_outputs-loop-i l = record {
  passed : IsPassed (λ (os : List Output). map twig os) (on_twig l.output)
      (λ (bs : List Branch). put_twig l.output l.keep (grown bs)) l.fn.outputs.items
      l.outputs.items l.fn.others.items l.others.items l.i;
  left : goal.unvisited-put_outputs-loop-i l;
}
