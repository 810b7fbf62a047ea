use Rattle.key_order.proofs.KeyRuns.{held_more}
use Rattle.key_order.proofs.mixed.values_of.Goals as goal

pub loop-pair-preserved : goal.loop-pair-preserved
loop-pair-preserved c =
    held_more c.args.pairs.now c.loop-pair.pair-index c.pair-item.result c.in_ok-copy_value.field-0
    c.loop-pair.values.items c.push.new.self.items c.loop-pair-test.true c.pair-item.is
    c.in_ok-copy_value.ensures c.loop-pair.invariant c.in_ok-push.ensures.items
