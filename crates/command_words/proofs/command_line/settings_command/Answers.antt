use Rattle.std.proofs.lemmas.Result.{IfOk-weaker}
use Rattle.command_words.proofs.AnswerLemmas.{added, stays_local}
use Rattle.command_words.proofs.command_line.settings_command.Goals as goal

pub returns-clause-app : goal.returns-clause-app
returns-clause-app c =
    let one = added _ _ _ _ _ c.in_ok-arg.ensures c.named.ensures.local c.named.ensures.rule
    c.in_ok-script_command.ensures.app in
    let two = added _ _ _ _ _ c.in_ok-arg-2.ensures c.named-2.ensures.local
    c.named-2.ensures.rule one in
    let three = added _ _ _ _ _ c.in_ok-arg-3.ensures c.named-3.ensures.local
    c.named-3.ensures.rule two in
    let four = added _ _ _ _ _ c.in_ok-arg-4.ensures c.named-4.ensures.local
    c.named-4.ensures.rule three in
    IfOk-weaker c.arg-5.result _ _
    (λ command adds. added _ command _ _ _ adds c.named-5.ensures.local c.named-5.ensures.rule
    four) c.arg-5.ensures

pub returns-clause-local : goal.returns-clause-local
returns-clause-local c =
    let one = stays_local _ _ _ c.in_ok-arg.ensures c.named.ensures.local
    c.in_ok-script_command.ensures.local in
    let two = stays_local _ _ _ c.in_ok-arg-2.ensures c.named-2.ensures.local one in
    let three = stays_local _ _ _ c.in_ok-arg-3.ensures c.named-3.ensures.local two in
    let four = stays_local _ _ _ c.in_ok-arg-4.ensures c.named-4.ensures.local three in
    IfOk-weaker c.arg-5.result _ _
    (λ command adds. stays_local _ command _ adds c.named-5.ensures.local four) c.arg-5.ensures
