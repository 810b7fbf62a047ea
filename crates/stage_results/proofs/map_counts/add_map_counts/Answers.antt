use Rattle.std.proofs.Common.{◌≡◌, ◌*◌, ◌/◌, ◌∷◌, [], ◌∙◌, ap, arith, get_or, length, map, sum, sym}
use Rattle.shards.specs.Shards.{concatenated}
use Rattle.exec_plan.specs.declared.plan.InChannel.{InChannel}
use Rattle.stage_phases.specs.of_map_shard.Tables.{split_into}
use Rattle.step_counts.specs.Owners.{owners_of}
use Rattle.step_counts.proofs.Growing.{grown_as}
use Rattle.task_lists.specs.Plans.{steps_count, task_counts}
use Rattle.task_lists.specs.Tasks.{map_task_at}
use Rattle.stage_results.proofs.MapCounting.{counted_more}
use Rattle.stage_results.proofs.map_counts.add_map_counts.Goals as goal

pub loop-k-preserved : goal.loop-k-preserved
loop-k-preserved c w partitions t made =
    let owners = c.index.result.now in
    let all = c.in_ok-owners.ensures
    ∙ ap (map (λ (x : InChannel). owners_of x.does)) c.as_slice.ensures in
    counted_more c.args.stage.now c.args.outs.now c.args.shards c.requires.some c.requires.count w
    partitions t made c.loop-k.k c.index-outs-k.result owners c.as_slice-in-loop-k.result.now _ _ _
    c.loop-k-test.true c.index-outs-k.is
    (c.index.ensures ∙ ap (λ l. get_or l (c.loop-k.k / c.args.shards) owners) all)
    c.as_slice-in-loop-k.ensures c.add_steps.ensures (c.loop-k.invariant w partitions t made)

pub returns : goal.returns
returns c w partitions t made =
    let n = split_into c.args.shards partitions in
    let s = c.args.stage.now in
    let outs = c.args.outs.now in
    let all : c.loop-k.k ≡ length s.inputs * c.args.shards =
    omega (arith, c.loop-k-test.false, c.loop-k.auto.k-end, c.requires.count) in
    grown_as _ _ _ _
    (λ i. ap (λ k. sum (concatenated (λ j. steps_count w i (map_task_at n t s j) ∷ []) k)) all
    ∙ ap sum (sym (c.numbers_law.ensures.map_counts (task_counts w i).maps n t s c.requires.some)))
    (c.loop-k.invariant w partitions t made)
