use Rattle.std.proofs.Common.{◌≡◌}
use Rattle.forest_steps.specs.Fresh.{zeros}
use Rattle.stage_exec.proofs.executing.no_sizes.Given as goal

abbrev pub invariant-loop-node : goal.invariant-loop-node
invariant-loop-node l = l.sizes.items ≡ zeros l._node
