use Rattle.key_order.proofs.Pairing.{values_more}
use Rattle.key_order.proofs.groups.values_in.Goals as goal

pub loop-each-preserved : goal.loop-each-preserved
loop-each-preserved c =
    values_more c.args.run.now c.loop-each.each-index c.each-item.result
    c.in_ok-copy_value.field-0 c.loop-each.values.items c.push.new.self.items
    c.loop-each-test.true c.each-item.is c.in_ok-copy_value.ensures c.loop-each.invariant
    c.in_ok-push.ensures.items
