use Rattle.std.proofs.Common.{◌≡◌, map}
use Rattle.flume_value.specs.Bag.{bag_of}
use Rattle.script_run.proofs.run.all_sorted.Given as goal

abbrev pub invariant-loop-list : goal.invariant-loop-list
invariant-loop-list g l = l.all.items ≡ map bag_of l.yielded
