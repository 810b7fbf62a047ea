use Rattle.std.proofs.Common.{◌∙◌, sum, sym}
use Rattle.std.proofs.lemmas.List.Sums.{sum_by-append}
use Rattle.stage_results.specs.of_map_shard.Tables.{split_into}
use Rattle.stage_results.proofs.of_step_counts.Growing.{grown_as, grown_then}
use Rattle.task_lists.specs.Plans.{task_counts}
use Rattle.task_lists.specs.Tasks.{map_phase, reduce_phase}
use Rattle.stage_exec.proofs.stage.mscr_lists.Goals as goal

pub returns : goal.returns
returns c w t made =
    let n = split_into c.args.shards c.args.partitions in
    let s = c.args.stage.now in
    let first = rw (← c.deref.ensures.value) at made.maps in
    record {
      lists =
          c.from_vec.ensures
          ∙ c.in_ok-lists.ensures.lists w c.args.shards t c.requires.cut.0 made;
      grown = grown_as _ _ _ _
          (λ i. sym (sum_by-append (λ x. x) (map_phase (task_counts w i).maps n t s)
          (reduce_phase (task_counts w i).reduces w n t s)))
          (grown_then (λ i. sum (map_phase (task_counts w i).maps n t s))
          (λ i. sum (reduce_phase (task_counts w i).reduces w n t s)) _ _ _
          (c.in_ok-add_map_counts.ensures w c.args.partitions t first)
          (c.in_ok-lists.ensures.grown w c.args.shards t c.requires.cut.0 made));
    }
