use Rattle.std.proofs.Common.{◌++◌}
use Rattle.map_shard.specs.inner.Fillings.{IsFilled}
use Rattle.map_shard.specs.inner.Sending.{CanSend, taken, takes_of}
use Rattle.map_shard.proofs.Handing.{filled_here, given_on, sendable}
use Rattle.map_shard.proofs.Sending.{member, next_one, next_ones, zip_further}
use Rattle.map_shard.proofs.send.send_more.Goals as goal

pub taken_lists-requires : goal.taken_lists-requires
taken_lists-requires c = c.requires.taken.last

pub fill_next-requires-clause-fit : goal.fill_next-requires-clause-fit
fill_next-requires-clause-fit c =
    sendable c.args.m c.args.lists.items c.args.channels.now c.loop-channel.channel-index
    c.channel-item.result c.loop-channel.given.rest.items c.loop-channel-test.true
    c.channel-item.is c.loop-channel.invariant.given
    (member (CanSend c.args.m c.args.lists.items) c.args.channels.now c.loop-channel.channel-index
    c.channel-item.result c.requires.fit c.loop-channel-test.true c.channel-item.is)

pub fill_next-requires-clause-stands : goal.fill_next-requires-clause-stands
fill_next-requires-clause-stands c =
    let before = c.requires.stands.0 in
    let filled = c.loop-channel.invariant.filled before c.requires.stands.1 in (
      before (takes_of c.channel-item.result),
      next_one (IsFilled c.args.partitions before) c.args.channels.now
          c.loop-channel.channel-index c.loop-channel.old.rest.items c.channel-item.result
          c.next_filling-filling.result filled.1 c.loop-channel-test.true c.channel-item.is
          c.next_filling-filling.ensures.next,
    )

pub loop-channel-preserved : goal.loop-channel-preserved
loop-channel-preserved c = record {
  given = given_on c.args.m c.args.lists.items c.args.channels.now c.loop-channel.channel-index
      c.channel-item.result c.loop-channel.given.rest.items c.loop-channel-test.true
      c.channel-item.is c.loop-channel.invariant.given c.fill_next.new.given.rest.items
      c.in_ok-fill_next.ensures.left;
  filled = λ before z.
      let was = c.loop-channel.invariant.filled before z in
      let channel = c.channel-item.result in
      let i = c.loop-channel.channel-index in
      let old = c.loop-channel.old.rest.items in
      let next = next_one (IsFilled c.args.partitions before) c.args.channels.now i old channel
      c.next_filling-filling.result was.1 c.loop-channel-test.true c.channel-item.is
      c.next_filling-filling.ensures.next in
      let m = c.args.m in (
        zip_further
            (IsFilled c.args.partitions (λ takes. before takes ++ taken m c.args.lists.items takes))
            c.args.channels.now i c.loop-channel.more.items c.push.new.self.items channel
            c.in_ok-fill_next.field-0 was.0 c.loop-channel-test.true c.channel-item.is
            (filled_here c.args.m c.args.lists.items c.args.channels.now i channel
            c.loop-channel.given.rest.items c.loop-channel-test.true c.channel-item.is
            c.loop-channel.invariant.given c.args.partitions before c.in_ok-fill_next.field-0
            (c.in_ok-fill_next.ensures.more (before (takes_of channel)) next))
            c.in_ok-push.ensures.items,
        next_ones (IsFilled c.args.partitions before) c.args.channels.now i old
            c.next_filling-filling.new.fillings.rest.items channel was.1 c.loop-channel-test.true
            c.channel-item.is c.next_filling-filling.ensures.rest,
      );
}
