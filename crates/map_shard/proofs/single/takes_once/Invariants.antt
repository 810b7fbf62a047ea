use Rattle.std.proofs.Common.{◌≡◌, drop}
use Rattle.map_shard.specs.inner.Single.{takes_once}
use Rattle.map_shard.proofs.single.takes_once.Given as goal

abbrev pub invariant-loop-i : goal.invariant-loop-i
invariant-loop-i l = takes_once l.m l.takes ≡ takes_once l.m (drop l.i l.takes)
