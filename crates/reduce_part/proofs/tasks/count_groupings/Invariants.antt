use Rattle.std.proofs.Common.{◌≡◌, ◌≤◌, ◌+◌, drop, length}
use Rattle.lifted_root.specs.of_task_lists.Tasks.{groupings}
use Rattle.reduce_part.proofs.tasks.count_groupings.Given as goal

abbrev pub invariant-loop-channel : goal.invariant-loop-channel
invariant-loop-channel l = record {
  counted : l.count + length (groupings (drop l.channel-index l.channels))
      ≡ length (groupings l.channels);
  few : l.count ≤ l.channel-index;
}
