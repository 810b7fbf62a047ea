use Rattle.std.proofs.Common.{◌≡◌, ℕ, ◌+◌, ◌<◌, List, Some, slice_get}
use Rattle.std.specs.Vec.Iter.{into_iter_items}
use Rattle.exec_graph.specs.of_flume_collection.Calls.{or_none}
use Rattle.exec_graph.specs.World.{World}
use Rattle.stage_phases.specs.of_map_shard.Tables.{split_into}
use Rattle.flume_value.specs.declared.value.Value.{Value}
use Rattle.shuffle_parts.specs.Outs.{all_passed}
use Rattle.stage_phases.specs.Outs.{AreReduceOuts}
use Rattle.task_lists.specs.Outs.{AreMapOuts}
use Rattle.task_lists.specs.Tasks.{Lists}
use Rattle.stage_results.specs.inner.Along.{AreAlong}
use Rattle.stage_results.proofs.lists.stage_lists.Given as goal

abbrev pub invariant-loop-channel : goal.invariant-loop-channel
invariant-loop-channel l = record {
  passed : (r : ℕ) (values : List Value)
      → all_passed l.fn.maps.items (l.channel-index + r) ≡ Some values
      → or_none (slice_get (into_iter_items l.passed) r) ≡ values;
  along : (w : World) (shards : ℕ) (t : Lists) → 0 < shards
      → AreMapOuts w (split_into shards l.partitions) t l.stage l.fn.maps.items
      → AreReduceOuts w (split_into shards l.partitions) t l.stage l.fn.reduces.items
      → AreAlong w (split_into shards l.partitions) t l.stage l.channel-index
      (into_iter_items l.outs)
      l.lists.items l.fn.sizes l.sizes;
}
