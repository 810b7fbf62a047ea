use Rattle.std.proofs.Common.{Some, ap, ◌∙◌}
use Rattle.std.proofs.lemmas.Result.{IfOk-weaker}
use Rattle.fusion_blocks.specs.inner.Tables.{known}
use Rattle.fusion_blocks.proofs.Chaining.{tells_mark}
use Rattle.fusion_blocks.proofs.Filling.{found_below}
use Rattle.fusion_blocks.proofs.chains.stretch_of.Goals as goal

pub stretch_to-requires-clause-below : goal.stretch_to-requires-clause-below
stretch_to-requires-clause-below c = found_below c.args.nodes.now c.args.c.node _
    c.requires.ranked c.in-Some-Pdo.ensures

pub returns-in-Some-Pdo-clause-marks : goal.returns-in-Some-Pdo-clause-marks
returns-in-Some-Pdo-clause-marks c =
    IfOk-weaker c.stretch_to.result _ _ (λ s is. tells_mark c.args.nodes.now
    (known c.args.estimates.now) c.args.c c.in-Some-Pdo.field-0-0 c.in-Some-Pdo.field-0-1 s
    (c.in-Some-Pdo.ensures ∙ ap Some c.in-Some-Pdo.field-0-is) is) c.stretch_to.ensures.is
