use Rattle.std.proofs.Common.{◌+◌, ◌*◌, ◌≡◌, drop, map}
use denote.Param.Weighed.{most}
use Rattle.graph_laws.specs.of_exec_graph.declared.step.Step.TheDeep.{deep-Output}
use Rattle.graph_laws.specs.of_exec_graph.declared.step.Step.TheView.{size}
use Rattle.graph_laws.specs.of_exec_graph.Twigs.{twig}
use Rattle.graph_walks.specs.inner.Plants.{on_branches, on_twigs}
use Rattle.graph_walks.proofs.finding.+find.Given as goal

abbrev pub decreases-on_steps : goal.decreases-on_steps
decreases-on_steps l = 4 * most (λ b. size b + 1) l.steps.now

abbrev pub decreases-on_step : goal.decreases-on_step
decreases-on_step l = 4 * size l.step.now + 3

abbrev pub decreases-on_outputs : goal.decreases-on_outputs
decreases-on_outputs l = 4 * most deep-Output l.outputs.now + 2

abbrev pub decreases-on_output : goal.decreases-on_output
decreases-on_output l = 4 * deep-Output l.one.now + 1

-- it is on none of those before
abbrev pub invariant-on_steps-loop-step : goal.invariant-on_steps-loop-step
invariant-on_steps-loop-step l =
    on_branches l.output (drop l.step-index l.steps) ≡ on_branches l.output l.steps

abbrev pub invariant-on_outputs-loop-one : goal.invariant-on_outputs-loop-one
invariant-on_outputs-loop-one l =
    on_twigs l.output (map twig (drop l.one-index l.outputs))
    ≡ on_twigs l.output (map twig l.outputs)
