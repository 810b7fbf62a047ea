use Rattle.std.proofs.Common.{codes}
use Rattle.outside.proofs.SaidLemmas.{says_both, says_cut}
use Rattle.run_texts.proofs.lines.say_trap.Goals as goal

pub returns-in_err-say : goal.returns-in_err-say
returns-in_err-say g c =
    says_cut (codes "trap at ") _ _ _ _ c.from_residual.result c.from_residual.ensures.0
    c.in_err-say.ensures

pub returns-in_err-say-2 : goal.returns-in_err-say-2
returns-in_err-say-2 g c =
    let r = c.from_residual-in_err-say-2.result in
    says_both (codes "trap at ") _ _ _ _ _ r c.in_ok-say.ensures
    (says_cut c.args.name.now _ _ _ _ r c.from_residual-in_err-say-2.ensures.0
    c.in_err-say-2.ensures)

pub returns : goal.returns
returns g c =
    let r = c.say_why.result in
    says_both (codes "trap at ") _ _ _ _ _ r c.in_ok-say.ensures
    (says_both c.args.name.now _ _ _ _ _ r c.in_ok-say-2.ensures c.say_why.ensures)
