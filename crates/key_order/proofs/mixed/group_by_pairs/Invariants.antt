use Rattle.std.proofs.Common.{◌≡◌, ◌++◌, All, map, reverse, vec_len}
use Rattle.bag_groups.specs.Pairs.{IsPair}
use Rattle.bag_groups.specs.Groups.{grouped}
use Rattle.key_order.proofs.KeyRuns.{KeysRise}
use Rattle.key_order.proofs.mixed.group_by_pairs.Given as goal

abbrev pub invariant-runs : goal.invariant-runs
invariant-runs l = record {
  pairs : All (λ p. IsPair p.now) l.left.items;
  ascending : KeysRise (map (λ p. p.now) l.left.items);
  all : grouped (map (λ p. p.now) l.fn.pairs.items)
      ≡ grouped (map (λ p. p.now) l.left.items) ++ reverse l.groups.items;
}

abbrev pub decreases-runs : goal.decreases-runs
decreases-runs l = vec_len l.left
