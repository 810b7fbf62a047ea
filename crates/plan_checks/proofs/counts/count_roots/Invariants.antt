use Rattle.std.proofs.Common.{◌≡◌, ◌+◌, ◌-◌, ◌^◌, ◌≤◌, drop, min}
use Rattle.exec_plan.specs.Wellformed.{outputs_told}
use Rattle.plan_checks.specs.inner.Counts.{branches_kept}
use Rattle.plan_checks.proofs.counts.count_roots.Given as goal

abbrev pub invariant-loop-step : goal.invariant-loop-step
invariant-loop-step l =
    (l.count ≤ 2 ^ 64 - 1)
    × (min (l.count + branches_kept (drop l.step-index l.step-items)) (2 ^ 64 - 1)
    ≡ min (outputs_told l.roots) (2 ^ 64 - 1))
