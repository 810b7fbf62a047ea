use Rattle.std.proofs.Common.{◌≡◌, ◌++◌, ◌≤◌, ◌-◌, drop, length, map}
use Rattle.bag_groups.specs.Groups.{grouped}
use Rattle.key_order.proofs.groups.groups_of_runs.Given as goal

abbrev pub invariant-loop-at : goal.invariant-loop-at
invariant-loop-at l = record {
  within : l.at ≤ length l.numbered;
  all : grouped (map (λ e. e.1.now) l.numbered)
      ≡ l.groups.items ++ grouped (map (λ e. e.1.now) (drop l.at l.numbered));
}

abbrev pub decreases-loop-at : goal.decreases-loop-at
decreases-loop-at l = length l.numbered - l.at
