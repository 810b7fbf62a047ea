use Rattle.std.proofs.Common.{◌≡◌, ◌+◌, ◌∙◌, ap, arith, drop, sum, sym}
use Rattle.std.proofs.Math.ListN.{drop_of_length-le}
use Rattle.shards.specs.Shards.{concatenated}
use Rattle.stage_phases.specs.of_map_shard.Tables.{split_into}
use Rattle.step_counts.specs.Owners.{owners_of}
use Rattle.step_counts.proofs.Growing.{grown_as}
use Rattle.task_lists.specs.Plans.{task_counts}
use Rattle.task_lists.specs.Tasks.{reduce_task}
use Rattle.stage_results.specs.inner.Channels.{all_joined}
use Rattle.stage_results.proofs.Channeling.{channel_joined, counted_more, next_out}
use Rattle.stage_results.proofs.channel.channel_lists.Goals as goal

pub loop-p-preserved : goal.loop-p-preserved
loop-p-preserved c = record {
  next = λ here behind count is.
      let p = c.loop-p._p in
      let left = c.loop-p.invariant.next here behind count is in
      let x = next_out c.args.partitions here behind _ p count c.loop-p-test.true left.0 in (
        c.in_ok-join_next.ensures.next x.0 _ x.1.first,
        ap (λ l. all_joined l (drop (p + 1) here))
            (c.in_ok-join_next.ensures.lists x.0 _ x.1.first)
            ∙ ap (all_joined c.loop-p.lists.items) (sym x.1.rest) ∙ left.1,
      );
  grown = λ w shards t ins here behind is are.
      let p = c.loop-p._p in
      let n = split_into shards c.args.partitions in
      let left = c.loop-p.invariant.next here behind are.count is in
      let x = next_out c.args.partitions here behind _ p are.count c.loop-p-test.true left.0 in
      counted_more w n t ins c.args.grouping.now here are p x.0 _ _ _ c.loop-p-test.true x.1.at
      (λ v task does out. c.in_ok-join_next.ensures.grown v task x.0 _ x.1.first
      (c.in_ok-owners.ensures ∙ ap owners_of does) out)
      (c.loop-p.invariant.grown w shards t ins here behind is are);
}

pub returns-clause-lists : goal.returns-clause-lists
returns-clause-lists c w shards t ins next =
    let n = split_into shards c.args.partitions in
    let here = next.0 in
    let are = next.3 in
    let left = c.loop-p.invariant.next here next.1 are.count next.2 in
    let end = drop_of_length-le here (omega (arith, are.count, c.loop-p-test.false)) in
    ap (all_joined c.loop-p.lists.items) (sym end) ∙ left.1
    ∙ channel_joined w n t ins c.args.grouping.now here are c.requires.some

pub returns-clause-grown : goal.returns-clause-grown
returns-clause-grown c w shards t ins next =
    let n = split_into shards c.args.partitions in
    let g = c.args.grouping.now in
    let end : c.loop-p._p ≡ c.args.partitions =
    omega (arith, c.loop-p-test.false, c.loop-p.auto._p-end) in
    grown_as _ _ _ _
    (λ i. ap (λ k. sum
    (concatenated (λ p. (task_counts w i).reduces g (reduce_task w n t ins g p)) k)) end)
    (c.loop-p.invariant.grown w shards t ins next.0 next.1 next.2 next.3)
