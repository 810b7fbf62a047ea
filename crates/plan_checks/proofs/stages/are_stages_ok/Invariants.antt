use Rattle.std.proofs.Common.{◌≡◌, take, drop, []}
use Rattle.plan_checks.specs.inner.Tests.{stages_test}
use Rattle.plan_checks.proofs.stages.are_stages_ok.Given as goal

abbrev pub invariant-loop-i : goal.invariant-loop-i
invariant-loop-i l =
    stages_test l.sources (take l.i l.stages) (drop l.i l.stages)
    ≡ stages_test l.sources [] l.stages
