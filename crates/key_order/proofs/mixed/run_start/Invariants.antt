use Rattle.std.proofs.Common.{◌≡◌, ◌≤◌, Some, drop, length, map}
use Rattle.std.specs.List.{AllByRecursion}
use Rattle.bag_groups.specs.Pairs.{key_of}
use Rattle.key_order.proofs.mixed.run_start.Given as goal

abbrev pub invariant-loop-start : goal.invariant-loop-start
invariant-loop-start l = record {
  within : l.start ≤ length l.pairs;
  same : AllByRecursion (λ p. key_of p ≡ Some l.wanted) (drop l.start (map (λ p. p.now) l.pairs));
}

abbrev pub decreases-loop-start : goal.decreases-loop-start
decreases-loop-start l = l.start
