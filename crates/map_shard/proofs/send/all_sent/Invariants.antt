use Rattle.std.proofs.Common.{◌≡◌, map}
use Rattle.map_shard.specs.inner.Fillings.{sent_of}
use Rattle.map_shard.proofs.send.all_sent.Given as goal

abbrev pub invariant-loop-filling : goal.invariant-loop-filling
invariant-loop-filling l = l.sent.items ≡ map sent_of l.yielded
