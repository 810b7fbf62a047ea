use Rattle.std.proofs.Common.{[]}
use Rattle.std.proofs.lemmas.Result.{err_from_is_err_and}
use Rattle.crew.proofs.Accounts.{all_grew_not}
use Rattle.plan_phases.proofs.Asking.{asked_all, asked_none}
use Rattle.plan_phases.proofs.Joining.{none_run}
use Rattle.stage_results.specs.of_map_shard.Tables.{table}
use Rattle.stage_exec.proofs.Acting.{making_ends, making_gives}
use Rattle.stage_exec.proofs.stage.run_stage.Goals as goal

-- ---- a stage of tasks

pub stage_outs-requires-clause-ready : goal.stage_outs-requires-clause-ready
stage_outs-requires-clause-ready g c κs within = rw c.in-Mscr.is at c.requires.ready

pub returns-in_err-outs-in-Mscr-clause-ended : goal.returns-in_err-outs-in-Mscr-clause-ended
returns-in_err-outs-in-Mscr-clause-ended g c w e =
    let p = err_from_is_err_and c.from_residual.result c.from_residual.ensures.1 in
    rw (p.1, p.2, c.in-Mscr.is) (c.in_err-outs-in-Mscr.ensures.ended w e)

pub mscr_lists-requires-clause-count : goal.mscr_lists-requires-clause-count
mscr_lists-requires-clause-count g c =
    let ready = c.requires.ready in
    rw c.shards-shards.ensures.value (c.in_ok-outs-in-Mscr.ensures.made ready.0 ready.1).maps.count

pub returns-in_ok-mscr_lists-in-Mscr-clause-given :
    goal.returns-in_ok-mscr_lists-in-Mscr-clause-given
returns-in_ok-mscr_lists-in-Mscr-clause-given g c w e =
    let t = table c.args.sources.now.items c.args.results.now.items in
    let given =
    rw (c.shards-shards.ensures.value, c.partitions-partitions.ensures.value)
    at c.in_ok-mscr_lists-in-Mscr.ensures in
    rw c.in-Mscr.is (given w t (c.in_ok-outs-in-Mscr.ensures.made w e))

pub returns-in_ok-mscr_lists-in-Mscr-clause-ended :
    goal.returns-in_ok-mscr_lists-in-Mscr-clause-ended
returns-in_ok-mscr_lists-in-Mscr-clause-ended g c w e =
    rw c.in-Mscr.is (c.in_ok-outs-in-Mscr.ensures.ended w e)

pub returns-in_err-mscr_lists-in-Mscr-clause-ended :
    goal.returns-in_err-mscr_lists-in-Mscr-clause-ended
returns-in_err-mscr_lists-in-Mscr-clause-ended g c w e =
    let settings = c.args.inputs.now.settings.now in
    let end = c.from_residual-in_err-mscr_lists-in-Mscr in
    let p = err_from_is_err_and end.result end.ensures.1 in
    rw (p.1, p.2, c.in-Mscr.is)
    (asked_all settings.tries settings.drill _ _ _ _ (c.in_ok-outs-in-Mscr.ensures.ended w e).asked)

-- ---- a stage without tasks

pub returns-in-Ok-clause-grew : goal.returns-in-Ok-clause-grew
returns-in-Ok-clause-grew g c = all_grew_not _

pub returns-in-Err-clause-grew : goal.returns-in-Err-clause-grew
returns-in-Err-clause-grew g c = all_grew_not _

pub returns-in-Ok-clause-ended : goal.returns-in-Ok-clause-ended
returns-in-Ok-clause-ended g c w e =
    let settings = c.args.inputs.now.settings.now in
    rw c.in-Flatten.is
    (none_run settings.tries settings.drill w _ c.args.winners.now.items)

pub returns-in-Err-clause-ended : goal.returns-in-Err-clause-ended
returns-in-Err-clause-ended g c w e =
    let settings = c.args.inputs.now.settings.now in
    rw c.in-Flatten.is (asked_none settings.tries settings.drill [] _)

-- ---- a stage that makes an object

pub object_lists-requires-clause-object : goal.object_lists-requires-clause-object
object_lists-requires-clause-object g c = rw c.in-Operate.is at c.requires.object

pub object_lists-requires-clause-ready : goal.object_lists-requires-clause-ready
object_lists-requires-clause-ready g c =
    rw (c.as_slice-rows.ensures.value, c.as_slice-lists.ensures.value)
    (rw c.in-Operate.is at c.requires.ready)

pub returns-in-Operate-clause-grew : goal.returns-in-Operate-clause-grew
returns-in-Operate-clause-grew g c = all_grew_not _

pub returns-in-Operate-clause-given : goal.returns-in-Operate-clause-given
returns-in-Operate-clause-given g c w e =
    let made = rw (c.as_slice-rows.ensures.value, c.as_slice-lists.ensures.value)
    at c.object_lists.ensures in
    rw c.in-Operate.is (making_gives w _ _ _ _ _ _ _ _ c.object_lists.result (made w e))

pub returns-in-Operate-clause-ended : goal.returns-in-Operate-clause-ended
returns-in-Operate-clause-ended g c w e =
    let made = rw (c.as_slice-rows.ensures.value, c.as_slice-lists.ensures.value)
    at c.object_lists.ensures in
    rw c.in-Operate.is
    (making_ends w _ _ c.args.inputs.now.settings.now _ _ _ _ c.args.winners.now.items
    c.object_lists.result (made w e))
