use Rattle.key_order.proofs.Pairing.{refs_more}
use Rattle.key_order.proofs.sorting.without_numbers.Goals as goal

pub loop-each-preserved : goal.loop-each-preserved
loop-each-preserved c =
    refs_more c.args.numbered.now c.loop-each.each-index c.each-item.result c.loop-each.all.items
    c.push.new.self.items c.loop-each-test.true c.each-item.is c.loop-each.invariant
    c.in_ok-push.ensures.items
