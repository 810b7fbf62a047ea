use Rattle.std.proofs.Common.{◌≡◌, ◌++◌}
use Rattle.forest_steps.proofs.emitted.Emitted.append.Given as goal

abbrev pub invariant-loop-value : goal.invariant-loop-value
invariant-loop-value l = l.self ≡ l.fn.self ++ l.yielded
