use Rattle.std.proofs.Common.{◌<◌, ◌∙◌, ap, arith}
use Rattle.graph_build.specs.Calls.{next_if, number_if}
use Rattle.graph_build.specs.Nodes.{bud}
use Rattle.graph_build.proofs.OutputLemmas.{outputs_next}
use Rattle.graph_build.proofs.outputs.outputs_from.Goals as goal

pub loop-name-preserved : goal.loop-name-preserved
loop-name-preserved c =
    let below : c.loop-name.name < c.args.end = omega arith in
    outputs_next c.args.program.now.script c.loop-name.name c.args.end c.loop-name.number _
    c.loop-name.outputs.items _ _ _ below
    (c.output.ensures
    ∙ ap (λ needed. bud (number_if needed c.loop-name.number)) c.emitted_at-needed.ensures)
    (c.in_ok-number.ensures
    ∙ ap (λ needed. next_if needed c.loop-name.number) c.emitted_at-needed.ensures)
    c.in_ok-push.ensures.items c.loop-name.invariant
