use Rattle.std.proofs.Common.{◌≡◌, ◌≤◌, ◌-◌, All, length, take}
use Rattle.bag_steps.proofs.runs.run_of_value.Given as goal

abbrev pub invariant-loop-n : goal.invariant-loop-n
invariant-loop-n l = record {
  within : l.n ≤ length l.values;
  same : All (λ v. v ≡ l.wanted) (take l.n l.values);
}

abbrev pub decreases-loop-n : goal.decreases-loop-n
decreases-loop-n l = length l.values - l.n
