use Rattle.std.proofs.Common.{◌≡◌, ℕ, ◌-◌, ◌^◌, drop, min, false}
use Rattle.plan_checks.specs.inner.Tests.{outs_test}
use Rattle.plan_checks.proofs.channels.are_outs_ok.Given as goal

abbrev pub invariant-loop-channel : goal.invariant-loop-channel
invariant-loop-channel l =
    (k : ℕ) × (l.count ≡ min k (2 ^ 64 - 1))
    × (outs_test l.inputs l.passed k (drop l.channel-index l.outputs)
    ≡ outs_test l.inputs false 0 l.outputs)
