use Rattle.shuffle_parts.proofs.Lifting.{none_more}
use Rattle.shuffle_parts.proofs.combine.none_lifted.Goals as goal

pub loop-i-preserved : goal.loop-i-preserved
loop-i-preserved c =
    none_more c.args.comb c.loop-i._i c.loop-i.parts.items c.push.new.self.items c.new.result
    c.loop-i.invariant c.in_ok-push.ensures.items c.new.ensures
