-- What all tasks of a plan come to: the first trap, and the sizes that they count.
use Rattle.std.specs.Prelude.{◌≡◌, ℕ, Bool, cond, ◌==◌, ◌&&◌, ◌+◌, List, [], ◌∷◌, ◌++◌, length, sum, Option, Some, None}
use Rattle.std.proofs.Common.{suc}
use Rattle.std.specs.List.{AllByRecursion, slice_get}
use Rattle.flume_collection.specs.declared.trap.Trap.{Trap}
use Rattle.flume_collection.specs.Collection.{Collection}
use Rattle.exec_plan.specs.of_exec_graph.World.{World}
use Rattle.exec_plan.specs.of_exec_graph.Forests.{Forest}
use Rattle.exec_plan.specs.declared.plan.Grouping.{Grouping}
use Rattle.exec_plan.specs.declared.plan.Stage.{Stage}
use Rattle.exec_plan.specs.declared.plan.Stage.TheVariants.{Mscr, Flatten, Operate}
use Rattle.exec_plan.specs.declared.plan.Plan.{Plan}
use Rattle.task_lists.specs.Runs.{traps_in_order, counts_of, labels_of, own_count}
use Rattle.task_lists.specs.Tasks.{Split, Lists, Task, asks_of, world_for, map_phase, reduce_phase}
use Rattle.task_lists.specs.Lists.{object_made, result_lists, with_lists, source_lists}

-- what is said of a map task, of a reduce task of a channel, and of the object that a stage makes
-- for an origin, whose own bag it is or not
pub record SaysOfTasks (Y : Type 0) : Type 0 where
  pub maps : Task → List Y
  pub reduces : Grouping → Task → List Y
  pub objects : ℕ → Bool → Collection → List Y

-- of the tasks of a stage: first those of the map phase, then those of the reduce phase. Other
-- stages have no tasks; but an Operate makes an object, as a phase by itself
abbrev pub stage_tasks : {Y : Type 0} → SaysOfTasks Y → World → Split → Lists → Stage → List Y
stage_tasks q w n t (Mscr s) = map_phase q.maps n t s ++ reduce_phase q.reduces w n t s
stage_tasks q w n t (Flatten takes) = []
stage_tasks q w n t (Operate takes o l a) = q.objects o l (object_made w t o a takes)

-- of the stages from number k on, each over the lists that it finds
abbrev pub tasks_from : {Y : Type 0} → SaysOfTasks Y → World → Split → ℕ → List Stage → Lists
    → List Y
tasks_from q w n k [] t = []
tasks_from q w n k (s ∷ ss) t =
    stage_tasks q w n t s ++ tasks_from q w n (suc k) ss (with_lists k (result_lists w n t s) t)

-- of all tasks of a plan, phase after phase and in order of tasks
abbrev pub all_tasks : {Y : Type 0} → SaysOfTasks Y → World → Split → Plan → List Y
all_tasks q w n p = tasks_from q w n 1 p.stages (source_lists w)

-- ---- traps

abbrev pub task_traps : World → SaysOfTasks Trap
task_traps w = record {
  maps = λ task. traps_in_order (world_for w task) task.does task.elements;
  reduces = λ g task. traps_in_order (world_for w task) task.does task.elements;
  objects = λ o l object. object.traps;
}

-- the first trap of the least trapping task of the first phase that has one, where the making of an
-- object is a phase. A run ends there, and no list after it counts
abbrev pub first_trap : World → Split → Plan → Option Trap
first_trap w n p = slice_get (all_tasks (task_traps w) w n p) 0

-- ---- sizes

-- what a task's steps count for script node i
abbrev pub steps_count : World → ℕ → Task → ℕ
steps_count w i task =
    own_count i (labels_of task.does) (counts_of (world_for w task) task.does task.elements)

-- a task's groups, where they are members of the bag of script node i
abbrev pub groups_count : ℕ → Grouping → Task → ℕ
groups_count i g task = cond (g.last && (g.origin == i)) (asks_of task) 0

abbrev pub task_counts : World → ℕ → SaysOfTasks ℕ
task_counts w i = record {
  maps = λ task. steps_count w i task ∷ [];
  reduces = λ g task. (groups_count i g task + steps_count w i task) ∷ [];
  objects = λ o l object. cond (l && (o == i)) (length object.bag) 0 ∷ [];
}

-- how many members the tasks count for script node i
abbrev pub counted_size : World → Split → Plan → ℕ → ℕ
counted_size w n p i = sum (all_tasks (task_counts w i) w n p)

-- ---- steps beside objects

-- the steps emit to their first outputs alone
abbrev pub AreFirst : Option Forest → Type 0
AreFirst f = AllByRecursion (λ l. l.at ≡ 0) (labels_of f)

-- those do that are called beside an object
abbrev pub AreFirstBeside : {X : Type 0} → Option X → Option Forest → Type 0
AreFirstBeside None f = Unit {0}
AreFirstBeside (Some object) f = AreFirst f

abbrev pub AreStageFirst : Stage → Type 0
AreStageFirst (Mscr m) = AllByRecursion (λ c. AreFirstBeside c.beside c.does) m.inputs
AreStageFirst (Flatten takes) = Unit {0}
AreStageFirst (Operate takes o l a) = Unit {0}

-- all of the plan do that are called beside an object, so that what they emit is of the script node
-- that they are of
abbrev pub AreSidesFirst : Plan → Type 0
AreSidesFirst p = AllByRecursion AreStageFirst p.stages
