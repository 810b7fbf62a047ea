use Rattle.std.proofs.Common.{◌+◌, ◌++◌, ◌∷◌, [], arith, map, refl}
use Rattle.std.proofs.lemmas.Result.{err_from_is_err_and}
use Rattle.plan_phases.proofs.Lasting.{all_grew_on}
use Rattle.stage_exec.proofs.Pushing.{agree_pushed, long_pushed, typed_pushed}
use Rattle.stage_exec.proofs.Running.{along_fewer, along_more, along_none, end_lists, end_run, object_ready, run_stops, stage_asked, stage_ready}
use Rattle.stage_results.specs.of_stage_phases.Stages.{run_world}
use Rattle.stage_exec.proofs.stages.run_stages.Goals as goal

pub loop-k-init : goal.loop-k-init
loop-k-init g c =
    let inputs = c.args.inputs.now in
    along_none inputs.settings.now (g.F.Functions.called inputs.functions.now)
    (g.F.Functions.can_call inputs.functions.now) c.args.sources.now.items c.args.stages.now
    c.args.outputs.now
    c.new-results.result.items c.args.sizes.now
    (map g.H.Host.account c.args.hosts.now) c.args.winners.now.items
    c.new-results.ensures.items (λ i. let fit = c.type_inv.sizes i in omega (arith, fit))
    c.requires.ready

pub run_stage-requires-clause-ready : goal.run_stage-requires-clause-ready
run_stage-requires-clause-ready g c κs within =
    let inputs = c.args.inputs.now in
    let called = g.F.Functions.called inputs.functions.now in (
      run_world called c.args.sources.now.items,
      refl,
      stage_ready inputs.settings.now called (g.F.Functions.can_call inputs.functions.now)
          c.args.sources.now.items c.args.stages.now c.args.outputs.now c.loop-k.sources.items
          c.loop-k.k c.loop-k.results.items c.args.sizes.now c.loop-k.sizes _ _
          c.args.winners.now.items c.loop-k.winners.items c.loop-k.invariant
          c.index-stages-k.result c.loop-k-test.true c.index-stages-k.is,
    )

pub run_stage-requires-clause-object : goal.run_stage-requires-clause-object
run_stage-requires-clause-object g c κs within =
    let inputs = c.args.inputs.now in
    object_ready inputs.settings.now (g.F.Functions.called inputs.functions.now)
    (g.F.Functions.can_call inputs.functions.now) c.args.sources.now.items c.args.stages.now
    c.args.outputs.now c.loop-k.sources.items c.loop-k.k
    c.loop-k.results.items c.args.sizes.now c.loop-k.sizes _ _ c.args.winners.now.items
    c.loop-k.winners.items c.loop-k.invariant c.index-stages-k.result c.loop-k-test.true
    c.index-stages-k.is

pub returns-in_err-lists-clause-grew : goal.returns-in_err-lists-clause-grew
returns-in_err-lists-clause-grew g c =
    all_grew_on _ _ _ c.loop-k.invariant.grew c.in_err-lists.ensures.grew

pub returns-in_err-lists-clause-ended : goal.returns-in_err-lists-clause-ended
returns-in_err-lists-clause-ended g c =
    let inputs = c.args.inputs.now in
    let called = g.F.Functions.called inputs.functions.now in
    let origin = c.args.sources.now.items in
    let p = err_from_is_err_and c.from_residual.result c.from_residual.ensures.1 in
    rw (p.1, p.2)
    (run_stops inputs.settings.now called (g.F.Functions.can_call inputs.functions.now) origin
    c.args.stages.now c.args.outputs.now c.loop-k.sources.items c.loop-k.k c.loop-k.results.items
    c.args.sizes.now c.loop-k.sizes _ _ c.args.winners.now.items c.loop-k.winners.items
    c.loop-k.invariant c.index-stages-k.result c.loop-k-test.true c.index-stages-k.is _
    c.in_err-lists.field-0.0 (c.in_err-lists.ensures.ended (run_world called origin) refl)
    c.in_err-lists.ensures.grew)

pub returns-in_err-push_results-clause-grew : goal.returns-in_err-push_results-clause-grew
returns-in_err-push_results-clause-grew g c =
    all_grew_on _ _ _ c.loop-k.invariant.grew c.run_stage.ensures.grew

pub returns-in_err-push_results-clause-ended : goal.returns-in_err-push_results-clause-ended
returns-in_err-push_results-clause-ended g c =
    let inputs = c.args.inputs.now in
    let end = c.from_residual-in_err-push_results in
    let p = err_from_is_err_and end.result end.ensures.1 in
    rw (p.1, p.2)
    (stage_asked inputs.settings.now (g.F.Functions.called inputs.functions.now)
    (g.F.Functions.can_call inputs.functions.now) c.args.sources.now.items c.args.stages.now
    c.args.outputs.now c.loop-k.sources.items c.loop-k.k
    c.loop-k.results.items c.args.sizes.now c.loop-k.sizes _ _ c.args.winners.now.items
    c.loop-k.winners.items c.loop-k.invariant c.index-stages-k.result c.loop-k-test.true
    c.index-stages-k.is _ c.run_stage.new.winners.items
    (c.in_ok-lists.ensures.ended
    (run_world (g.F.Functions.called inputs.functions.now) c.args.sources.now.items) refl))

pub loop-k-preserved : goal.loop-k-preserved
loop-k-preserved g c =
    let inputs = c.args.inputs.now in
    let called = g.F.Functions.called inputs.functions.now in
    let can = g.F.Functions.can_call inputs.functions.now in
    let s = inputs.settings.now in
    let origin = c.args.sources.now.items in
    let stages = c.args.stages.now in
    let outputs = c.args.outputs.now in
    let rows = c.loop-k.sources.items in
    let results = c.loop-k.results.items in
    let ls = c.in_ok-lists.lists in
    let w = run_world called origin in
    let left = c.run_stage.new.sources.items in
    let fewer = c.run_stage.new.results.items in
    let grown = c.push_results.new.results.items in
    let given = c.in_ok-lists.ensures.given w refl in
    let kept = c.in_ok-lists.ensures.kept in
    let more =
    along_more s called can origin stages outputs rows c.loop-k.k results c.args.sizes.now
    c.loop-k.sizes _ _ c.args.winners.now.items c.loop-k.winners.items c.loop-k.invariant
    c.index-stages-k.result c.loop-k-test.true c.index-stages-k.is ls (results ++ ls ∷ [])
    c.run_stage.new.sizes _ c.run_stage.new.winners.items given.lists refl
    given.grown (c.in_ok-lists.ensures.ended w refl)
    c.in_ok-lists.ensures.grew in
    let pushed =
    along_fewer s called can origin stages outputs rows left (c.loop-k.k + 1)
    (results ++ ls ∷ []) grown c.args.sizes.now c.run_stage.new.sizes _ _
    c.args.winners.now.items c.run_stage.new.winners.items
    (long_pushed rows left results fewer grown ls kept.count
    c.in_ok-push_results.ensures)
    (agree_pushed rows left results fewer grown ls kept.count
    c.in_ok-push_results.ensures _ kept.others)
    (typed_pushed rows left results fewer grown ls kept.count
    c.in_ok-push_results.ensures kept.typed) more in
    along_fewer s called can origin stages outputs left c.drop_read.new.sources.items
    (c.loop-k.k + 1) grown c.drop_read.new.results.items c.args.sizes.now c.run_stage.new.sizes _ _
    c.args.winners.now.items c.run_stage.new.winners.items c.drop_read.ensures.kept.count
    c.drop_read.ensures.kept.others c.drop_read.ensures.kept.typed pushed

pub returns-clause-lists : goal.returns-clause-lists
returns-clause-lists g c =
    end_lists _ (g.F.Functions.called c.args.inputs.now.functions.now) _ c.args.sources.now.items
    _ _ _ _ _ _ _ _ _ _ _ c.loop-k.invariant c.loop-k-test.false

pub returns-clause-ended : goal.returns-clause-ended
returns-clause-ended g c =
    end_run _ (g.F.Functions.called c.args.inputs.now.functions.now) _ c.args.sources.now.items
    _ _ _ _ _ _ _ _ _ _ _ c.loop-k.invariant c.loop-k-test.false
