use Rattle.std.proofs.Common.{◌≡◌, take}
use Rattle.bag_steps.specs.inner.Runs.{held_by}
use Rattle.bag_steps.proofs.runs.values_of.Given as goal

abbrev pub invariant-loop-pair : goal.invariant-loop-pair
invariant-loop-pair l = l.values.items ≡ held_by (take l.pair-index l.pairs)
