use Rattle.forest_steps.proofs.Beginning.{zeros_more}
use Rattle.forest_steps.proofs.outputs.no_counts.Goals as goal

pub loop-i-preserved : goal.loop-i-preserved
loop-i-preserved c =
    zeros_more c.loop-i._i c.loop-i.counts.items c.push.new.self.items c.loop-i.invariant
    c.in_ok-push.ensures.items
