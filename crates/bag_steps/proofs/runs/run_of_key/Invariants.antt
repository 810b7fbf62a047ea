use Rattle.std.proofs.Common.{◌≡◌, ◌≤◌, ◌-◌, All, Some, length, take}
use Rattle.keyed_steps.specs.of_bag_groups.Pairs.{key_of}
use Rattle.bag_steps.proofs.runs.run_of_key.Given as goal

abbrev pub invariant-loop-n : goal.invariant-loop-n
invariant-loop-n l = record {
  within : l.n ≤ length l.pairs;
  same : All (λ v. key_of v ≡ Some l.wanted) (take l.n l.pairs);
}

abbrev pub decreases-loop-n : goal.decreases-loop-n
decreases-loop-n l = length l.pairs - l.n
