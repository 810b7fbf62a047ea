use Rattle.std.proofs.Common.{◌≡◌, map, take}
use Rattle.bag_groups.specs.Pairs.{held_by}
use Rattle.key_order.proofs.mixed.values_of.Given as goal

abbrev pub invariant-loop-pair : goal.invariant-loop-pair
invariant-loop-pair l =
    l.values.items ≡ held_by (map (λ p. p.now) (take l.pair-index l.pairs))
