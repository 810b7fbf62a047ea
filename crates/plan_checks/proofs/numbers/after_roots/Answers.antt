use Rattle.std.proofs.Common.{sym, ap, ◌∙◌}
use Rattle.plan_checks.specs.inner.Counts.{outs_from}
use Rattle.plan_checks.proofs.Counting.{grown_followed}
use Rattle.plan_checks.proofs.numbers.after_roots.Goals as goal

pub loop-step-init : goal.loop-step-init
loop-step-init c =
    sym (grown_followed c.steps-step-items.result.now 0)
    ∙ ap (outs_from 0) c.steps-step-items.ensures
