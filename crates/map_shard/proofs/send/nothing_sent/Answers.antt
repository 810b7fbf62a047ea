use Rattle.std.proofs.Common.{[]}
use Rattle.map_shard.specs.inner.Fillings.{IsFilled}
use Rattle.map_shard.proofs.Sending.{zip_further}
use Rattle.map_shard.proofs.send.nothing_sent.Goals as goal

pub loop-channel-preserved : goal.loop-channel-preserved
loop-channel-preserved c =
    zip_further (IsFilled c.args.partitions (λ takes. [])) c.args.channels.now
    c.loop-channel.channel-index c.loop-channel.fillings.items c.push.new.self.items
    c.channel-item.result c.in_ok-nothing.field-0 c.loop-channel.invariant
    c.loop-channel-test.true c.channel-item.is c.in_ok-nothing.ensures
    c.in_ok-push.ensures.items
