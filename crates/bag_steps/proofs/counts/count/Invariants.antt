use Rattle.std.proofs.Common.{◌-◌, length}
use Rattle.bag_steps.specs.Counts.{counted}
use Rattle.bag_steps.proofs.GroupSteps.{Begun}
use Rattle.bag_steps.proofs.counts.count.Given as goal

abbrev pub invariant-loop-at : goal.invariant-loop-at
invariant-loop-at l = Begun counted l.bag l.pairs.items l.at

abbrev pub decreases-loop-at : goal.decreases-loop-at
decreases-loop-at l = length l.bag - l.at
