-- The phases of a plan, in the order in which a run makes them: tasks, or the making of an object.
use Rattle.std.specs.Prelude.{ℕ, List, [], ◌∷◌, ◌++◌}
use Rattle.std.proofs.Common.{suc}
use Rattle.std.specs.List.{flat_map}
use Rattle.outside.specs.declared.host.Phase.{Phase}
use Rattle.outside.specs.declared.host.Phase.TheVariants.{Map, Reduce}
use Rattle.flume_collection.specs.declared.trap.Trap.{Trap}
use Rattle.shards.specs.Shards.{concatenated}
use Rattle.exec_graph.specs.World.{World}
use Rattle.task_lists.specs.of_exec_plan.declared.plan.Grouping.{Grouping}
use Rattle.task_lists.specs.of_exec_plan.declared.plan.Mscr.{Mscr as Channels}
use Rattle.task_lists.specs.of_exec_plan.declared.plan.Stage.{Stage}
use Rattle.task_lists.specs.of_exec_plan.declared.plan.Stage.TheVariants.{Mscr, Flatten, Operate}
use Rattle.task_lists.specs.of_exec_plan.declared.plan.Plan.{Plan}
use Rattle.task_lists.specs.Runs.{traps_in_order}
use Rattle.task_lists.specs.Tasks.{Split, Lists, Task, world_for, groupings, map_count, map_task_at, reduce_count, reduce_task_at}
use Rattle.task_lists.specs.Lists.{object_made, result_lists, source_lists, with_lists}

-- a phase of a stage, and its tasks by their numbers
pub record PhaseTasks : Type 0 where
  pub stage : ℕ
  pub phase : Phase
  pub tasks : List Task

-- a phase of a plan: the tasks of a stage's phase, or the making of an object by an act, which has
-- no tasks, with the traps of the act
pub data PlanPhase : Type 0 where
  OfTasks : (tasks : PhaseTasks) → PlanPhase
  OfAct : (traps : List Trap) → PlanPhase

-- the phases that have tasks
abbrev pub with_tasks : List PlanPhase → List PhaseTasks
with_tasks [] = []
with_tasks (OfTasks ph ∷ phases) = ph ∷ with_tasks phases
with_tasks (OfAct traps ∷ phases) = with_tasks phases

-- the tasks with the numbers below a count, in order
abbrev pub tasks_below : (ℕ → Task) → ℕ → List Task
tasks_below task count = concatenated (λ k. task k ∷ []) count

-- ---- the phases of stage k, over the lists that it finds

abbrev pub map_phase_of : ℕ → Split → Lists → Channels → PhaseTasks
map_phase_of k n t s = record {
  stage = k;
  phase = Map;
  tasks = tasks_below (map_task_at n t s) (map_count n s);
}

abbrev pub reduce_phase_of : World → ℕ → Split → Lists → Channels → PhaseTasks
reduce_phase_of w k n t s = record {
  stage = k;
  phase = Reduce;
  tasks = tasks_below (reduce_task_at w n t s) (reduce_count n s);
}

-- where there are grouping channels
abbrev pub reduce_phases : World → ℕ → Split → Lists → Channels → List Grouping → List PlanPhase
reduce_phases w k n t s [] = []
reduce_phases w k n t s (g ∷ gs) = OfTasks (reduce_phase_of w k n t s) ∷ []

-- a Flatten has none
abbrev pub stage_phases : World → ℕ → Split → Lists → Stage → List PlanPhase
stage_phases w k n t (Mscr s) =
    OfTasks (map_phase_of k n t s) ∷ reduce_phases w k n t s (groupings s.outputs)
stage_phases w k n t (Flatten takes) = []
stage_phases w k n t (Operate takes o l a) = OfAct (object_made w t o a takes).traps ∷ []

-- ---- of a plan

-- the phases of the stages from number k on, each over the lists that it finds
abbrev pub phases_from : World → Split → ℕ → List Stage → Lists → List PlanPhase
phases_from w n k [] t = []
phases_from w n k (s ∷ ss) t =
    stage_phases w k n t s
    ++ phases_from w n (suc k) ss (with_lists k (result_lists w n t s) t)

-- all phases of a plan, in order
abbrev pub phases : World → Split → Plan → List PlanPhase
phases w n p = phases_from w n 1 p.stages (source_lists w)

-- ---- traps

-- the traps of a phase: those of its tasks, in order, or of its act
abbrev pub phase_traps : World → PlanPhase → List Trap
phase_traps w (OfTasks ph) =
    flat_map (λ task. traps_in_order (world_for w task) task.does task.elements) ph.tasks
phase_traps w (OfAct traps) = traps
