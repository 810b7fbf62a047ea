use Rattle.std.proofs.Common.{◌∙◌, ap, ap₂}
use Rattle.std.proofs.lemmas.Result.{IfOk-weaker}
use Rattle.clap.specs.Words.{App, with_subcommand}
use Rattle.command_words.proofs.AnswerLemmas.{added, stays_local}
use Rattle.command_words.proofs.command_line.cached_line.Goals as goal

pub returns : goal.returns
returns c =
    let base = c.in_ok-settings_command.ensures in
    let run = added _ _ _ _ _ c.in_ok-run.ensures c.named.ensures.local c.named.ensures.rule
    base.app in
    IfOk-weaker c.subcommand.result _ _
    (λ line h. h.shape
    (stays_local _ _ _ c.in_ok-run.ensures c.named.ensures.local base.local)
    ∙ ap₂ with_subcommand c.program.ensures (ap (λ (a : App). a.top) run))
    c.subcommand.ensures
