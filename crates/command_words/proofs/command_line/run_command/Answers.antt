use Rattle.std.proofs.lemmas.Result.{IfOk-weaker}
use Rattle.command_words.proofs.AnswerLemmas.{added, stays_local}
use Rattle.command_words.proofs.command_line.run_command.Goals as goal

pub returns-clause-app : goal.returns-clause-app
returns-clause-app c =
    IfOk-weaker c.arg.result _ _
    (λ command adds. added _ command _ _ _ adds c.named.ensures.local c.named.ensures.rule
    c.in_ok-settings_command.ensures.app) c.arg.ensures

pub returns-clause-local : goal.returns-clause-local
returns-clause-local c =
    IfOk-weaker c.arg.result _ _
    (λ command adds. stays_local _ command _ adds c.named.ensures.local
    c.in_ok-settings_command.ensures.local) c.arg.ensures
