use Rattle.std.proofs.Common.{◌≡◌, ℕ, ◌++◌, List, [], length, drop, sum}
use Rattle.std.specs.Vec.Iter.{into_iter_items}
use Rattle.shards.specs.Shards.{concatenated}
use Rattle.exec_graph.specs.World.{World}
use Rattle.exec_plan.specs.declared.plan.InChannel.{InChannel}
use Rattle.stage_phases.specs.of_map_shard.Tables.{split_into}
use Rattle.stage_phases.specs.of_reduce_part.declared.out.ReduceOut.{ReduceOut}
use Rattle.step_counts.specs.Sizes.{HaveGrown}
use Rattle.task_lists.specs.Plans.{task_counts}
use Rattle.task_lists.specs.Tasks.{Lists, reduce_task}
use Rattle.stage_results.specs.inner.Channels.{AreOutsOf, all_joined}
use Rattle.stage_results.proofs.channel.channel_lists.Given as goal

abbrev pub invariant-loop-p : goal.invariant-loop-p
invariant-loop-p l = record {
  next : (here behind : List ReduceOut) → length here ≡ l.partitions
      → into_iter_items l.fn.outs ≡ here ++ behind
      → (into_iter_items l.outs ≡ drop l._p here ++ behind)
      × (all_joined l.lists.items (drop l._p here) ≡ all_joined [] here);
  grown : (w : World) (shards : ℕ) (t : Lists) (ins : List InChannel)
      (here behind : List ReduceOut) → into_iter_items l.fn.outs ≡ here ++ behind
      → AreOutsOf w (split_into shards l.partitions) t ins l.grouping here
      → HaveGrown (λ i. sum (concatenated (λ p. (task_counts w i).reduces l.grouping
      (reduce_task w (split_into shards l.partitions) t ins l.grouping p)) l._p)) l.fn.sizes
      l.sizes;
}
