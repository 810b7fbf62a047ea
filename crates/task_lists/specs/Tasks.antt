-- The tasks of a stage: which elements each has, and what the tasks of a phase give.
use Rattle.std.specs.Prelude.{ℕ, cond, ◌==◌, ◌*◌, ◌/◌, ◌%◌, List, [], length, filter_map, Option, Some, None}
use Rattle.std.specs.List.{flat_map, slice_get}
use Rattle.std.specs.Option.{option_map_or}
use Rattle.flume_value.specs.declared.value.Value.{Value}
use Rattle.bag_groups.specs.Groups.{grouped}
use Rattle.shards.specs.Shards.{concatenated, shard}
use Rattle.shuffle_parts.specs.Partitions.{pairs_in_part}
use Rattle.exec_plan.specs.of_exec_graph.World.{World}
use Rattle.exec_plan.specs.of_exec_graph.Objects.{world_beside, only}
use Rattle.exec_plan.specs.of_exec_graph.Forests.{Forest}
use Rattle.exec_plan.specs.declared.plan.PlanPlace.{PlanPlace}
use Rattle.exec_plan.specs.declared.plan.Take.{Take}
use Rattle.exec_plan.specs.declared.plan.InChannel.{InChannel}
use Rattle.exec_plan.specs.declared.plan.Grouping.{Grouping}
use Rattle.exec_plan.specs.declared.plan.OutChannel.{OutChannel}
use Rattle.exec_plan.specs.declared.plan.OutChannel.TheVariants.{Group, Pass}
use Rattle.exec_plan.specs.declared.plan.Mscr.{Mscr}
use Rattle.task_lists.specs.Runs.{emissions_at}

-- how many shards an input channel has, and how many partitions a grouping channel
pub record Split : Type 0 where
  pub shards : ℕ
  pub partitions : ℕ

-- the list of each collection
abbrev pub Lists : Type 0
Lists = PlanPlace → List Value

-- a task: its elements, in order, the value of an object beside which steps are called, where they
-- are, and the steps that run on each of its elements
pub record Task : Type 0 where
  pub elements : List Value
  pub beside : Option Value
  pub does : Option Forest

-- the world in which the steps of a task are called. Beside a value a call is on the record of an
-- element and that value, and its trap names the element
abbrev pub world_for : World → Task → World
world_for w task = world_beside task.beside w

-- a task asks its host before each of its elements
abbrev pub asks_of : Task → ℕ
asks_of task = length task.elements

-- what a task gives to its output j
abbrev pub task_gives : World → Task → ℕ → List Value
task_gives w task j = emissions_at (world_for w task) task.does task.elements j

abbrev pub no_task : Task
no_task = record { elements = []; beside = None; does = None }

-- ---- channels that call their steps beside an object

-- the value of the object, which is the one member of its list
abbrev pub value_beside : Lists → Option PlanPlace → Option Value
value_beside t None = None
value_beside t (Some object) = only (t object)

-- a list where there is a value, and otherwise no element
abbrev pub if_valued : Option Value → List Value → List Value
if_valued None xs = []
if_valued (Some v) xs = xs

-- the elements of a list on which the steps are called: none where the object has no value
abbrev pub elements_beside : Lists → Option PlanPlace → List Value → List Value
elements_beside t None xs = xs
elements_beside t (Some object) xs = if_valued (only (t object)) xs

-- ---- map tasks: map task m * shards + i is shard i of input channel m

-- shard i of an input channel
abbrev pub map_task : Split → Lists → InChannel → ℕ → Task
map_task n t c i = record {
  elements = shard n.shards i (elements_beside t c.beside (t c.reads));
  beside = value_beside t c.beside;
  does = c.does;
}

abbrev pub map_task_of : Split → Lists → List InChannel → ℕ → ℕ → Task
map_task_of n t ins m i = option_map_or (λ c. map_task n t c i) (slice_get ins m) no_task

-- what a task of input channel m gives a channel that takes these, in the order of takes and as
-- often as each is taken
abbrev pub given_to : World → Task → ℕ → List Take → List Value
given_to w task m takes =
    flat_map (λ k. cond (k.channel == m) (task_gives w task k.out) []) takes

-- what all map tasks give it, in order of tasks
abbrev pub gathered : World → Split → Lists → List InChannel → List Take → List Value
gathered w n t ins takes =
    concatenated (λ m. concatenated (λ i. given_to w (map_task_of n t ins m i) m takes) n.shards)
    (length ins)

-- ---- reduce tasks: reduce task r * partitions + p is partition p of grouping channel r

-- the groups whose keys are in partition p, keys ascending
abbrev pub reduce_task : World → Split → Lists → List InChannel → Grouping → ℕ → Task
reduce_task w n t ins g p = record {
  elements = pairs_in_part n.partitions p (grouped (gathered w n t ins g.takes));
  beside = None;
  does = g.does;
}

abbrev pub grouping_of : OutChannel → Option Grouping
grouping_of (Group g) = Some g
grouping_of (Pass k n) = None

-- the grouping channels, in order
abbrev pub groupings : List OutChannel → List Grouping
groupings outs = filter_map grouping_of outs

-- ---- the phases of a stage

-- what f says of each map task, in order of tasks
abbrev pub map_phase : {Y : Type 0} → (Task → List Y) → Split → Lists → Mscr → List Y
map_phase f n t s = flat_map (λ c. concatenated (λ i. f (map_task n t c i)) n.shards) s.inputs

-- what f says of each reduce task, in order of tasks
abbrev pub reduce_phase : {Y : Type 0} → (Grouping → Task → List Y) → World → Split → Lists → Mscr
    → List Y
reduce_phase f w n t s =
    flat_map (λ g. concatenated (λ p. f g (reduce_task w n t s.inputs g p)) n.partitions)
    (groupings s.outputs)

-- ---- tasks by their numbers

abbrev pub map_count : Split → Mscr → ℕ
map_count n s = length s.inputs * n.shards

abbrev pub map_task_at : Split → Lists → Mscr → ℕ → Task
map_task_at n t s k = map_task_of n t s.inputs (k / n.shards) (k % n.shards)

abbrev pub reduce_count : Split → Mscr → ℕ
reduce_count n s = length (groupings s.outputs) * n.partitions

-- the grouping channel of a reduce task
abbrev pub grouping_at : Split → Mscr → ℕ → Option Grouping
grouping_at n s k = slice_get (groupings s.outputs) (k / n.partitions)

abbrev pub reduce_task_at : World → Split → Lists → Mscr → ℕ → Task
reduce_task_at w n t s k =
    option_map_or (λ g. reduce_task w n t s.inputs g (k % n.partitions)) (grouping_at n s k) no_task
