use Rattle.std.proofs.Common.{◌<◌, ◌∙◌, ap, arith}
use Rattle.graph_build.specs.Calls.{next_if}
use Rattle.graph_build.proofs.OutputLemmas.{count_next}
use Rattle.graph_build.proofs.outputs.count_needed.Goals as goal

pub loop-name-preserved : goal.loop-name-preserved
loop-name-preserved c =
    let below : c.loop-name.name < c.args.end = omega arith in
    count_next c.args.program.now.script c.loop-name.name c.args.end c.loop-name.count _ _ below
    (c.in_ok-count.ensures
    ∙ ap (λ needed. next_if needed c.loop-name.count) c.emitted_at.ensures)
    c.loop-name.invariant
