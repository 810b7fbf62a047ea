use Rattle.std.proofs.Common.{◌≡◌}
use Rattle.forest_steps.specs.Fresh.{zeros}
use Rattle.forest_steps.proofs.outputs.no_counts.Given as goal

abbrev pub invariant-loop-i : goal.invariant-loop-i
invariant-loop-i l = l.counts.items ≡ zeros l._i
