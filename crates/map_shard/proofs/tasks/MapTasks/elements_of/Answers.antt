use Rattle.std.proofs.Common.{◌≡◌, refl}
use Rattle.map_shard.specs.Work.{Work}
use Rattle.map_shard.proofs.Working.{at_task, task_is}
use Rattle.map_shard.proofs.tasks.MapTasks.elements_of.Goals as goal

pub returns : goal.returns
returns g c =
    let is_task = rw (← c.self.view_is) at c.requires in
    let read = task_is c.self.invariant c.args.task is_task c.as_slice.ensures
    c.index-as_slice-task.is c.called_on-list.ensures c.shard_of.ensures refl in
    at_task (λ (x : Work _) t. c.shard_of.result.now ≡ t.elements) c.args.task c.self.view_is read
    refl
