use Rattle.std.proofs.lemmas.Result.{IfOk-weaker}
use Rattle.command_words.proofs.AnswerLemmas.{added, stays_local}
use Rattle.command_words.proofs.command_line.plan_command.Goals as goal

pub returns-clause-app : goal.returns-clause-app
returns-clause-app c =
    let one = added _ _ _ _ _ c.in_ok-arg.ensures c.named.ensures.local c.named.ensures.rule
    c.in_ok-script_command.ensures.app in
    IfOk-weaker c.arg-2.result _ _
    (λ command adds. added _ command _ _ _ adds c.named-2.ensures.local c.named-2.ensures.rule one)
    c.arg-2.ensures

pub returns-clause-local : goal.returns-clause-local
returns-clause-local c =
    let one = stays_local _ _ _ c.in_ok-arg.ensures c.named.ensures.local
    c.in_ok-script_command.ensures.local in
    IfOk-weaker c.arg-2.result _ _
    (λ command adds. stays_local _ command _ adds c.named-2.ensures.local one) c.arg-2.ensures
