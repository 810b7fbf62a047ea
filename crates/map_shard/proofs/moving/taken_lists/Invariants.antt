use Rattle.std.proofs.Common.{◌≡◌, ◌++◌, map, drop}
use Rattle.map_shard.specs.inner.Sending.{taken_by}
use Rattle.map_shard.proofs.moving.taken_lists.Given as goal

abbrev pub invariant-loop-k : goal.invariant-loop-k
invariant-loop-k l =
    l.all.items ++ map (taken_by l.m l.lists.items) (drop l.k l.takes.all.items)
    ≡ map (taken_by l.m l.fn.lists.items) l.takes.all.items
