use Rattle.std.proofs.Common.{◌∙◌}
use Rattle.task_lists.specs.Runs.{counts_of, labels_of}
use Rattle.task_lists.specs.Tasks.{world_for}
use Rattle.step_counts.proofs.Adding.{steps_grown}
use Rattle.step_counts.proofs.owners.Owners.add_steps.Goals as goal

pub returns : goal.returns
returns c w task owners counts =
    steps_grown _ _ _ _ (labels_of task.does)
    (counts_of (world_for w task) task.does task.elements)
    c.add_all.ensures.few (c.deref.ensures.value ∙ c.self.view_is ∙ owners) counts
    c.add_all.ensures.grown
