use Rattle.std.proofs.Common.{Ok, ap, sym, ◌∙◌}
use Rattle.std.proofs.lemmas.Result.{IfOk-weaker}
use Rattle.exec_graph.specs.declared.step.Does.TheVariants as does
use Rattle.exec_graph.proofs.StepFacts.{called_is}
use Rattle.forest_steps.proofs.answer.derive.Goals as goal

pub returns-in-Pair : goal.returns-in-Pair
returns-in-Pair c w =
    rw c.in-Pair.is (called_is does.Pair w c.args.x ∙ ap Ok (sym c.with_one.ensures))

pub returns-in-TagLeft : goal.returns-in-TagLeft
returns-in-TagLeft c w =
    rw c.in-TagLeft.is (IfOk-weaker c.left_tagged.result _ _
    (λ lists e. called_is does.TagLeft w c.args.x ∙ ap Ok (sym e)) c.left_tagged.ensures)

pub returns-in-TagRight : goal.returns-in-TagRight
returns-in-TagRight c w =
    rw c.in-TagRight.is (IfOk-weaker c.right_tagged.result _ _
    (λ lists e. called_is does.TagRight w c.args.x ∙ ap Ok (sym e)) c.right_tagged.ensures)

pub returns-in-Split : goal.returns-in-Split
returns-in-Split c w =
    rw c.in-Split.is (IfOk-weaker c.split.result _ _
    (λ lists e. called_is does.Split w c.args.x ∙ ap Ok (sym e)) c.split.ensures)

pub returns-in-Solo : goal.returns-in-Solo
returns-in-Solo c w =
    rw c.in-Solo.is (called_is does.Solo w c.args.x ∙ ap Ok (sym c.under_zero.ensures))

pub returns-in-Spread : goal.returns-in-Spread
returns-in-Spread c w =
    rw c.in-Spread.is (IfOk-weaker c.spread.result _ _
    (λ lists e. called_is does.Spread w c.args.x ∙ ap Ok (sym e)) c.spread.ensures)
