use Rattle.std.proofs.Common.{[], take}
use Rattle.std.specs.List.{AllZip}
use Rattle.map_shard.specs.inner.Fillings.{IsFilled}
use Rattle.map_shard.proofs.send.nothing_sent.Given as goal

abbrev pub invariant-loop-channel : goal.invariant-loop-channel
invariant-loop-channel l =
    AllZip (IsFilled l.partitions (λ takes. [])) (take l.channel-index l.channels) l.fillings.items
