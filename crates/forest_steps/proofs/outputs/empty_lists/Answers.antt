use Rattle.forest_steps.proofs.Beginning.{empties_more}
use Rattle.forest_steps.proofs.outputs.empty_lists.Goals as goal

pub loop-i-preserved : goal.loop-i-preserved
loop-i-preserved c =
    empties_more c.loop-i._i c.loop-i.lists.items c.push.new.self.items c.new.result
    c.loop-i.invariant c.in_ok-push.ensures.items c.new.ensures
