use Rattle.map_shard.proofs.Handing.{joined_on, left_on}
use Rattle.map_shard.proofs.send.joined.Goals as goal

pub loop-take-preserved : goal.loop-take-preserved
loop-take-preserved c = record {
  all = joined_on c.args.takes.now c.loop-take._take-index c.loop-take.values
      c.in_ok-values.values c.loop-take.given.rest.items c.next_emitted.new.given.rest.items _
      c.next_emitted.result c.loop-take-test.true c.next_emitted.ensures.next
      c.next_emitted.ensures.rest
      c.in_ok-values.ensures c.loop-take.invariant.all;
  rest = left_on c.args.takes.now c.loop-take._take-index c.loop-take.given.rest.items
      c.next_emitted.new.given.rest.items _ c.loop-take-test.true c.next_emitted.ensures.rest
      c.loop-take.invariant.rest;
}
