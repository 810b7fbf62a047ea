use Rattle.std.proofs.Common.{ℕ, List, ◌∷◌, []}
use Rattle.std.proofs.lemmas.Result.{err_from_is_err_and}
use Rattle.stage_results.specs.of_map_shard.Tables.{table}
use Rattle.stage_results.specs.of_stage_phases.Runs.{split_of}
use Rattle.exec_plan.specs.declared.plan.Mscr.{Mscr as Channels}
use Rattle.plan_phases.specs.Phases.{OfTasks, PlanPhase, map_phase_of, reduce_phases}
use Rattle.plan_phases.proofs.Joining.{run_then, stopped_before, stopped_behind}
use Rattle.plan_phases.proofs.Lasting.{all_grew_on}
use Rattle.exec_graph.specs.World.{World}
use Rattle.run_settings.specs.Settings.{RunSettings}
use Rattle.task_lists.specs.Tasks.{Lists, groupings}
use Rattle.stage_exec.proofs.phases.stage_outs.Goals as goal

-- the phases of the stage: the map phase alone, and those behind it
abbrev mapping : RunSettings → ℕ → Lists → Channels → List PlanPhase
mapping s number t stage = OfTasks (map_phase_of number (split_of s) t stage) ∷ []

abbrev reducing : World → RunSettings → ℕ → Lists → Channels → List PlanPhase
reducing w s number t stage =
    reduce_phases w number (split_of s) t stage (groupings stage.outputs)

pub map_outs-requires-clause-ready : goal.map_outs-requires-clause-ready
map_outs-requires-clause-ready g c κs within =
    rw (c.as_slice-rows.ensures.value, c.as_slice-lists.ensures.value) c.requires.ready

pub returns-in_err-maps-clause-ended : goal.returns-in_err-maps-clause-ended
returns-in_err-maps-clause-ended g c w e =
    let s = c.args.inputs.now.settings.now in
    let t = table c.args.sources.now.items c.args.results.now.items in
    let ended = rw (c.as_slice-rows.ensures.value, c.as_slice-lists.ensures.value)
    at c.in_err-maps.ensures.ended in
    let p = err_from_is_err_and c.from_residual.result c.from_residual.ensures.1 in
    rw (p.1, p.2)
    (stopped_before s.tries s.drill w (mapping s c.args.number t c.args.stage.now)
    (reducing w s c.args.number t c.args.stage.now) _ _ _ (ended w e))

pub reduce_outs-requires-clause-ready : goal.reduce_outs-requires-clause-ready
reduce_outs-requires-clause-ready g c κs within =
    let ready = c.requires.ready in
    let outs = rw (c.as_slice-rows.ensures.value, c.as_slice-lists.ensures.value)
    at c.in_ok-maps.ensures.outs in
    record {
      cut = c.requires.cut;
      world = ready.0;
      answers = ready.1;
      lists = table c.args.sources.now.items c.args.results.now.items;
      ready = ready.2;
      made = rw c.deref.ensures.value (outs ready.0 ready.1);
    }

pub returns-in_err-reduces-clause-grew : goal.returns-in_err-reduces-clause-grew
returns-in_err-reduces-clause-grew g c =
    all_grew_on _ _ _ c.in_ok-maps.ensures.grew c.in_err-reduces.ensures.grew

pub returns-in_err-reduces-clause-ended : goal.returns-in_err-reduces-clause-ended
returns-in_err-reduces-clause-ended g c w e =
    let s = c.args.inputs.now.settings.now in
    let t = table c.args.sources.now.items c.args.results.now.items in
    let ran = (rw (c.as_slice-rows.ensures.value, c.as_slice-lists.ensures.value)
    at c.in_ok-maps.ensures.ended) w e in
    let outs = rw (c.as_slice-rows.ensures.value, c.as_slice-lists.ensures.value)
    at c.in_ok-maps.ensures.outs in
    let p =
    err_from_is_err_and c.from_residual-in_err-reduces.result
    c.from_residual-in_err-reduces.ensures.1 in
    rw (p.1, p.2)
    (stopped_behind s.tries s.drill w (mapping s c.args.number t c.args.stage.now)
    (reducing w s c.args.number t c.args.stage.now) _ _ _ _ ran.through ran.asked
    (c.in_err-reduces.ensures.ended w e t (rw c.deref.ensures.value (outs w e)))
    c.in_ok-maps.ensures.grew c.in_err-reduces.ensures.grew)

pub returns-clause-grew : goal.returns-clause-grew
returns-clause-grew g c =
    all_grew_on _ _ _ c.in_ok-maps.ensures.grew c.in_ok-reduces.ensures.grew

pub returns-clause-made : goal.returns-clause-made
returns-clause-made g c w e =
    let t = table c.args.sources.now.items c.args.results.now.items in
    let outs = rw (c.as_slice-rows.ensures.value, c.as_slice-lists.ensures.value)
    at c.in_ok-maps.ensures.outs in
    let maps = outs w e in
    record {
      maps = maps;
      reduces = c.in_ok-reduces.ensures.outs w e t (rw c.deref.ensures.value maps);
    }

pub returns-clause-ended : goal.returns-clause-ended
returns-clause-ended g c w e =
    let s = c.args.inputs.now.settings.now in
    let t = table c.args.sources.now.items c.args.results.now.items in
    run_then s.tries s.drill w (mapping s c.args.number t c.args.stage.now)
    (reducing w s c.args.number t c.args.stage.now) _ _ _ _ _ _
    ((rw (c.as_slice-rows.ensures.value, c.as_slice-lists.ensures.value)
    at c.in_ok-maps.ensures.ended) w e)
    (c.in_ok-reduces.ensures.ended w e t (rw c.deref.ensures.value
    ((rw (c.as_slice-rows.ensures.value, c.as_slice-lists.ensures.value)
    at c.in_ok-maps.ensures.outs) w e)))
    c.in_ok-maps.ensures.grew c.in_ok-reduces.ensures.grew
