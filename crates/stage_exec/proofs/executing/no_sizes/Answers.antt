use Rattle.forest_steps.proofs.Beginning.{zeros_more}
use Rattle.stage_exec.proofs.executing.no_sizes.Goals as goal

pub loop-node-preserved : goal.loop-node-preserved
loop-node-preserved c =
    zeros_more c.loop-node._node c.loop-node.sizes.items c.push.new.self.items
    c.loop-node.invariant c.in_ok-push.ensures.items
