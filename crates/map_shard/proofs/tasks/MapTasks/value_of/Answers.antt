use Rattle.std.specs.Prelude.{IfOk}
use Rattle.std.proofs.Common.{refl, subst}
use Rattle.std.proofs.lemmas.Result.{IfOk-weaker}
use Rattle.map_shard.specs.Work.{IsWorkValue, Work}
use Rattle.map_shard.proofs.Working.{can_run, task_is, value_of}
use Rattle.map_shard.proofs.tasks.MapTasks.value_of.Goals as goal

pub run_beside-requires : goal.run_beside-requires
run_beside-requires g c =
    let is_task = rw (← c.self.view_is) at c.requires in
    let read = task_is c.self.invariant c.args.task is_task c.as_slice.ensures
    c.index-as_slice-task.is c.called_on-list.ensures c.shard_of-elements.ensures
    c.object_value-object.ensures in
    can_run c.self.invariant c.args.task is_task _ read refl refl
    c.as_slice-channels.ensures c.in_ok-takes.ensures

pub returns : goal.returns
returns g c =
    let is_task = rw (← c.self.view_is) at c.requires in
    let read = task_is c.self.invariant c.args.task is_task c.as_slice.ensures
    c.index-as_slice-task.is c.called_on-list.ensures c.shard_of-elements.ensures
    c.object_value-object.ensures in
    subst (λ (x : Work _). IfOk c.run_beside.result
    (IsWorkValue (g.F.Functions.called x.functions) x c.args.task)) c.self.view_is
    (IfOk-weaker c.run_beside.result _ _
    (value_of c.self.invariant c.args.task is_task read c.as_slice-channels.result.now
    c.as_slice-channels.ensures) c.run_beside.ensures)
