use Rattle.std.proofs.Common.{◌≡◌, ◌++◌}
use Rattle.forest_steps.proofs.emitted.append_pairs.Given as goal

abbrev pub invariant-loop-couple : goal.invariant-loop-couple
invariant-loop-couple l = l.values.items ≡ l.fn.values.items ++ l.yielded
