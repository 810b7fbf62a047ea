use Rattle.std.proofs.Common.{◌≡◌, ◌+◌, ◌*◌, drop, map}
use denote.Param.Weighed.{most}
use Rattle.exec_graph.specs.Twigs.{twig}
use Rattle.exec_graph.specs.declared.step.Step.TheDeep.{deep-Output}
use Rattle.exec_graph.specs.declared.step.Step.TheView.{size}
use Rattle.graph_walks.specs.inner.Numbering.{branches_outs, twigs_outs}
use Rattle.graph_joins.specs.inner.Seeks.{seek}
use Rattle.graph_joins.proofs.seeking.+seek.Given as goal

abbrev pub decreases-seek_steps : goal.decreases-seek_steps
decreases-seek_steps l = 4 * most (λ b. size b + 1) l.steps.now

abbrev pub decreases-seek_step : goal.decreases-seek_step
decreases-seek_step l = 4 * size l.step.now + 3

abbrev pub decreases-seek_outputs : goal.decreases-seek_outputs
decreases-seek_outputs l = 4 * most deep-Output l.outputs.now + 2

abbrev pub decreases-seek_output : goal.decreases-seek_output
decreases-seek_output l = 4 * deep-Output l.output.now + 1

-- what is left to pass of those left
abbrev pub invariant-seek_steps-loop-step : goal.invariant-seek_steps-loop-step
invariant-seek_steps-loop-step l =
    seek (branches_outs (drop l.step-index l.steps)) l.rest
    ≡ seek (branches_outs l.steps) l.number

abbrev pub invariant-seek_outputs-loop-output : goal.invariant-seek_outputs-loop-output
invariant-seek_outputs-loop-output l =
    seek (twigs_outs (map twig (drop l.output-index l.outputs))) l.rest
    ≡ seek (twigs_outs (map twig l.outputs)) l.number
