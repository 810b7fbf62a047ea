use Rattle.std.proofs.Common.{ap, arith, map, sym, ◌∙◌}
use Rattle.exec_graph.specs.Objects.{values_in}
use Rattle.exec_plan.specs.declared.plan.PlanPlace.TheVariants.{Source}
use Rattle.stage_results.specs.of_map_shard.Tables.{table}
use Rattle.task_lists.specs.Lists.{calm_list}
use Rattle.stage_exec.specs.inner.Objects.{then_values}
use Rattle.stage_exec.proofs.Acting.{values_begin, values_end, values_step, values_stopped}
use Rattle.stage_exec.proofs.objects.values_of.Goals as goal

pub loop-place-init : goal.loop-place-init
loop-place-init c =
    let t = table c.args.sources.now c.args.results.now in
    ap (λ values. then_values values (values_in (map (calm_list t)
    c.as_slice-place-items.result.now)))
    c.new-values.ensures
    ∙ values_begin (values_in (map (calm_list t) c.as_slice-place-items.result.now))
    ∙ ap (λ ps. values_in (map (calm_list t) ps)) c.as_slice-place-items.ensures

pub loop-place-preserved : goal.loop-place-preserved
loop-place-preserved c =
    values_step (table c.args.sources.now c.args.results.now) c.as_slice-place-items.result.now
    c.loop-place.place-index c.loop-place.values _ c.loop-place.invariant (Source 0)
    c.list_of.result.now c.push.new.self c.in-Some.value c.loop-place-test.true
    c.list_of.ensures (sym c.in_ok-value.ensures ∙ c.in-Some.is) c.in_ok-push-in-Some.ensures.ok

pub returns-in-None : goal.returns-in-None
returns-in-None c =
    values_stopped (table c.args.sources.now c.args.results.now) c.as_slice-place-items.result.now
    c.loop-place.place-index c.loop-place.values _ c.loop-place.invariant (Source 0)
    c.list_of.result.now c.loop-place-test.true
    c.list_of.ensures (sym c.in_ok-value.ensures ∙ c.in-None.is)

pub returns : goal.returns
returns c =
    values_end (table c.args.sources.now c.args.results.now) c.as_slice-place-items.result.now
    c.loop-place.place-index c.loop-place.values _ c.loop-place.invariant
    (omega (arith, c.loop-place-test.false))
