use Rattle.std.proofs.Common.{◌≡◌, ◌+◌, ◌-◌, ◌^◌, ◌≤◌, drop, min}
use Rattle.exec_plan.specs.Wellformed.{widths}
use Rattle.plan_checks.proofs.counts.widths_of.Given as goal

abbrev pub invariant-loop-channel : goal.invariant-loop-channel
invariant-loop-channel l =
    (l.count ≤ 2 ^ 64 - 1)
    × (min (l.count + widths (drop l.channel-index l.channels)) (2 ^ 64 - 1)
    ≡ min (widths l.channels) (2 ^ 64 - 1))
