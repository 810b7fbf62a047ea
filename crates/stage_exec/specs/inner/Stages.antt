-- What a stage gives.
use Rattle.std.specs.Prelude.{◌≡◌, ℕ, List, sum}
use Rattle.flume_value.specs.declared.value.Value.{Value}
use Rattle.exec_graph.specs.World.{World}
use Rattle.exec_plan.specs.declared.plan.Stage.{Stage}
use Rattle.stage_results.specs.of_step_counts.Sizes.{HaveGrown}
use Rattle.task_lists.specs.Lists.{result_lists}
use Rattle.task_lists.specs.Plans.{stage_tasks, task_counts}
use Rattle.task_lists.specs.Tasks.{Lists, Split}

-- the lists are the stage's results, and the sizes have grown by what its tasks count
pub record IsStageGiven (w : World) (n : Split) (t : Lists) (s : Stage) (first sizes : List ℕ)
    (given : List (List Value)) : Type 0 where
  pub lists : given ≡ result_lists w n t s
  pub grown : HaveGrown (λ i. sum (stage_tasks (task_counts w i) w n t s)) first sizes
