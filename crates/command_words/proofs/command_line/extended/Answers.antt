use Rattle.std.proofs.lemmas.Result.{IfOk-weaker}
use Rattle.command_words.proofs.command_line.extended.Goals as goal

pub returns-in-Ok : goal.returns-in-Ok
returns-in-Ok c =
    rw c.in-Ok.is
    (IfOk-weaker c.subcommand.result _ _
    (λ longer adds. adds.shape (rw c.in-Ok.is at c.requires))
    c.subcommand.ensures)
