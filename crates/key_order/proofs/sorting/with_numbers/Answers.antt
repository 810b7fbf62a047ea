use Rattle.key_order.proofs.Pairing.{holds_more, told_more}
use Rattle.key_order.proofs.sorting.with_numbers.Goals as goal

pub loop-pair-preserved : goal.loop-pair-preserved
loop-pair-preserved c = record {
  pairs = told_more c.args.pairs.now c.loop-pair.pair-index c.pair-item.result
      c.loop-pair.all.items c.push.new.self.items c.key_number.result c.loop-pair-test.true
      c.pair-item.is c.loop-pair.invariant.pairs c.in_ok-push.ensures.items;
  numbers = holds_more c.pair-item.result c.loop-pair.all.items c.push.new.self.items
      c.key_number.result c.key.result.now c.loop-pair.invariant.numbers c.key.ensures
      c.key_number.ensures.number c.key_number.ensures.held c.in_ok-push.ensures.items;
}
