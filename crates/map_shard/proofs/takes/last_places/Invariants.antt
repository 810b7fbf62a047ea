use Rattle.std.proofs.Common.{take}
use Rattle.map_shard.specs.inner.Takes.{AreLast}
use Rattle.map_shard.proofs.takes.last_places.Given as goal

abbrev pub invariant-loop-k : goal.invariant-loop-k
invariant-loop-k l = AreLast l.m (take l.k l.takes) l.last.items
