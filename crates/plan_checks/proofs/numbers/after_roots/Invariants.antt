use Rattle.std.proofs.Common.{◌≡◌, drop}
use Rattle.plan_checks.specs.inner.Counts.{branches_from, outs_from}
use Rattle.plan_checks.proofs.numbers.after_roots.Given as goal

abbrev pub invariant-loop-step : goal.invariant-loop-step
invariant-loop-step l =
    branches_from l.next (drop l.step-index l.step-items) ≡ outs_from 0 l.roots
