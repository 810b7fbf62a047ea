use Rattle.std.proofs.lemmas.Result.{IfOk-weaker}
use Rattle.command_words.proofs.AnswerLemmas.{one_more}
use Rattle.command_words.proofs.command_line.command_line.Goals as goal

pub returns : goal.returns
returns c =
    let one = one_more _ _ _ _ _ c.in_ok-one.ensures c.script_command.ensures.app
    c.program.ensures in
    let two = one_more _ _ _ _ _ c.in_ok-two.ensures c.plan_command.ensures.app one in
    let three = one_more _ _ _ _ _ c.in_ok-three.ensures c.script_command-2.ensures.app two in
    let four = one_more _ _ _ _ _ c.in_ok-four.ensures c.run_command.ensures.app three in
    IfOk-weaker c.extended-5.result _ _
    (λ line adds. one_more _ line _ _ _ adds c.make_command.ensures.app four)
    c.extended-5.ensures
