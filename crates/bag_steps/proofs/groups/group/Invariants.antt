use Rattle.std.proofs.Common.{◌-◌, length}
use Rattle.keyed_steps.specs.of_bag_groups.Groups.{grouped}
use Rattle.bag_steps.proofs.GroupSteps.{Begun}
use Rattle.bag_steps.proofs.groups.group.Given as goal

abbrev pub invariant-loop-at : goal.invariant-loop-at
invariant-loop-at l = Begun grouped l.pairs l.groups.items l.at

abbrev pub decreases-loop-at : goal.decreases-loop-at
decreases-loop-at l = length l.pairs - l.at
