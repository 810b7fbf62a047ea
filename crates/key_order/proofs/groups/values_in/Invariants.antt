use Rattle.std.proofs.Common.{◌≡◌, map, take}
use Rattle.bag_groups.specs.Pairs.{held_by}
use Rattle.key_order.proofs.groups.values_in.Given as goal

abbrev pub invariant-loop-each : goal.invariant-loop-each
invariant-loop-each l =
    l.values.items ≡ held_by (map (λ e. e.1.now) (take l.each-index l.run))
