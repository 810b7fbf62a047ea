use Rattle.std.proofs.Common.{◌≡◌}
use Rattle.forest_steps.specs.Fresh.{empties}
use Rattle.forest_steps.proofs.outputs.empty_lists.Given as goal

abbrev pub invariant-loop-i : goal.invariant-loop-i
invariant-loop-i l = l.lists.items ≡ empties l._i
