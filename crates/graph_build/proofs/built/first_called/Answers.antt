use Rattle.std.proofs.Common.{◌<◌, ◌∙◌, sym, arith}
use Rattle.graph_build.proofs.BuiltLemmas.{emitted_other}
use Rattle.graph_build.proofs.built.first_called.Goals as goal

pub loop-name-preserved : goal.loop-name-preserved
loop-name-preserved c =
    let below : c.loop-name.name < c.args.end = omega arith in
    emitted_other c.args.program.now.script c.loop-name.name c.args.end _ below
    (sym c.emitted_at.ensures ∙ c.if-emitted_at.false) c.loop-name.invariant
