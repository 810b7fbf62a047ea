use Rattle.std.proofs.Common.{◌≡◌}
use Rattle.forest_steps.proofs.outputs.all_items.Given as goal

abbrev pub invariant-loop-list : goal.invariant-loop-list
invariant-loop-list l = l.all.items ≡ l.yielded
