use Rattle.std.proofs.Common.{◌≡◌, ◌++◌}
use Rattle.map_shard.specs.inner.Legs.{count_with, each_with}
use Rattle.map_shard.proofs.joining.join_counts.Given as goal

abbrev pub invariant-loop-count : goal.invariant-loop-count
invariant-loop-count l =
    l.all.items ++ each_with count_with l.count-iterator.rest.items l.others.rest.items
    ≡ each_with count_with l.fn.counts.items l.fn.more.items
