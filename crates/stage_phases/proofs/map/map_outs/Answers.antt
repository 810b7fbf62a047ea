use Rattle.std.proofs.Common.{refl}
use Rattle.std.proofs.lemmas.Result.{IfOk-weaker}
use Rattle.map_shard.proofs.CrossLemmas.{MapTasks-sync}
use Rattle.map_shard.proofs.Fitting.{are_outs}
use Rattle.stage_phases.proofs.CrossLemmas.{MapOut-send}
use Rattle.stage_phases.proofs.Mapping.{is_map_phase}
use Rattle.stage_phases.specs.inner.Tasks.{work_of}
use denote.Exit.{no}
use denote.Param.Send.{arg_send, arg_sync, param_send, param_sync}
use denote.Ref.{NamedLft}
use mir.Syntax.{named}
use Rattle.stage_phases.proofs.map.map_outs.Goals as goal

pub outs_of-requires-sync-T : goal.outs_of-requires-sync-T
outs_of-requires-sync-T g c κs within =
    let a : NamedLft = record { mir = named 8; lft = κs.1.1.1.1.1.1.1.1.0 } in
    param_sync _ _ (arg_sync _ no _ (MapTasks-sync a _ _ c.type_bounds.sync-F))

pub outs_of-requires-send-O : goal.outs_of-requires-send-O
outs_of-requires-send-O g c κs within = param_send _ _ (arg_send _ no _ MapOut-send)

pub returns-clause-outs : goal.returns-clause-outs
returns-clause-outs g c w e =
    let inputs = c.args.inputs.now in
    let settings = inputs.settings.now in
    let values = rw c.map_tasks-tasks.ensures.tasks at c.outs_of.ensures.values in
    IfOk-weaker c.outs_of.result _ _
    (λ outs v. are_outs inputs.functions.now c.args.sources.now c.args.results.now c.args.stage.now
    settings.shards settings.partitions w (g.F.Functions.called inputs.functions.now) e outs.items
    v.count v.values) values

pub returns-clause-ended : goal.returns-clause-ended
returns-clause-ended g c w e =
    let inputs = c.args.inputs.now in
    let work = work_of inputs.functions.now c.args.sources.now c.args.results.now c.args.stage.now
    inputs.settings.now in
    let ended = rw (c.map_tasks-tasks.ensures.tasks, c.phase-phase.ensures.settings)
    at c.outs_of.ensures.ended in
    ended w _ (is_map_phase work w _ e c.args.number _ refl refl)
