use Rattle.shuffle_parts.proofs.Parting.{none_more}
use Rattle.shuffle_parts.proofs.parts.no_pairs.Goals as goal

pub loop-i-preserved : goal.loop-i-preserved
loop-i-preserved c =
    none_more c.loop-i._i c.loop-i.parts.items c.push.new.self.items c.new.result
    c.loop-i.invariant c.in_ok-push.ensures.items c.new.ensures
