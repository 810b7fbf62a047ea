use Rattle.std.proofs.Common.{ℕ, ◌∷◌, [], sum}
use Rattle.shards.specs.Shards.{concatenated}
use Rattle.exec_graph.specs.World.{World}
use Rattle.stage_phases.specs.of_map_shard.Tables.{split_into}
use Rattle.step_counts.specs.Sizes.{HaveGrown}
use Rattle.task_lists.specs.Outs.{AreMapOuts}
use Rattle.task_lists.specs.Plans.{steps_count}
use Rattle.task_lists.specs.Tasks.{Lists, map_task_at}
use Rattle.stage_results.proofs.map_counts.add_map_counts.Given as goal

abbrev pub invariant-loop-k : goal.invariant-loop-k
invariant-loop-k l =
    (w : World) (partitions : ℕ) (t : Lists)
    → AreMapOuts w (split_into l.shards partitions) t l.stage l.outs
    → HaveGrown (λ i. sum
    (concatenated (λ k. steps_count w i (map_task_at (split_into l.shards partitions) t l.stage k) ∷
    []) l.k))
    l.fn.sizes l.sizes
