use Rattle.std.proofs.Common.{ap, arith}
use Rattle.exec_plan.specs.Wellformed.{outputs_told}
use Rattle.plan_checks.proofs.Counting.{grown_counted}
use Rattle.plan_checks.proofs.counts.count_roots.Goals as goal

pub loop-step-init : goal.loop-step-init
loop-step-init c =
    let all = grown_counted c.steps-step-items.result.now in
    let same = ap outputs_told c.steps-step-items.ensures in (omega arith, omega arith)
