use Rattle.std.proofs.Common.{◌≡◌, ◌++◌, drop}
use Rattle.std.specs.List.{flat_map}
use Rattle.map_shard.specs.inner.Sending.{takes_of}
use Rattle.map_shard.proofs.takes.all_takes.Given as goal

abbrev pub invariant-loop-channel : goal.invariant-loop-channel
invariant-loop-channel l =
    l.takes.items ++ flat_map takes_of (drop l.channel-index l.channels)
    ≡ flat_map takes_of l.channels
