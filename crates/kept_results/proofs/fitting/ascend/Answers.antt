use Rattle.std.proofs.Common.{arith}
use Rattle.kept_results.proofs.fitting.ascend.Goals as goal

pub loop-number-init : goal.loop-number-init
loop-number-init c = (omega arith, λ k d below. absurd (omega (arith, below)))
