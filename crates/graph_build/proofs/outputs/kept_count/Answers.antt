use Rattle.std.proofs.Common.{◌<◌, ◌≤◌, ◌∙◌, ap, arith}
use Rattle.graph_build.specs.Calls.{next_if}
use Rattle.graph_build.proofs.BuiltLemmas.{kept_all, kept_next}
use Rattle.graph_build.proofs.outputs.kept_count.Goals as goal

pub loop-name-preserved : goal.loop-name-preserved
loop-name-preserved c =
    let below : c.loop-name.name < c.args.end = omega arith in
    kept_next c.args.program.now.script c.loop-name.name c.args.end c.loop-name.count _ _ below
    (c.in_ok-count.ensures ∙ ap (λ kept. next_if kept c.loop-name.count) c.kept_at.ensures)
    c.loop-name.invariant

pub returns : goal.returns
returns c =
    let past : c.args.end ≤ c.loop-name.name = omega arith in
    kept_all c.args.program.now.script c.loop-name.name c.args.end c.loop-name.count _ past
    c.loop-name.invariant
