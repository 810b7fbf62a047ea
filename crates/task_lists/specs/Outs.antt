-- What is right for a task to give.
use Rattle.std.specs.Prelude.{◌≡◌, ℕ, ◌<◌, ◌/◌, ◌%◌, List, [], ◌∷◌, map, length, slice_get, Option, Some, None, Result, Ok, Err}
use Rattle.std.specs.List.{AllZip}
use Rattle.std.specs.Option.{IsSomeAnd}
use Rattle.flume_value.specs.declared.value.Value.{Value}
use Rattle.flume_value.specs.declared.fault.Kind.{Kind}
use Rattle.flume_collection.specs.declared.trap.Trap.{Trap}
use Rattle.flume_collection.specs.Calls.{Called}
use Rattle.combine_table.specs.declared.comb.Comb.{Comb}
use Rattle.shuffle_parts.specs.declared.out.Sent.{Sent}
use Rattle.shuffle_parts.specs.declared.out.Sent.TheVariants.{Passed}
use Rattle.shuffle_parts.specs.declared.out.MapOut.{MapOut}
use Rattle.shuffle_parts.specs.Outs.{ArePairsOf, ArePartialsOf}
use Rattle.exec_plan.specs.of_exec_graph.World.{World}
use Rattle.exec_plan.specs.of_exec_graph.Calls.{of_combine}
use Rattle.exec_plan.specs.declared.plan.Take.{Take}
use Rattle.exec_plan.specs.declared.plan.OutChannel.{OutChannel}
use Rattle.exec_plan.specs.declared.plan.OutChannel.TheVariants.{Group, Pass}
use Rattle.exec_plan.specs.declared.plan.Mscr.{Mscr}
use Rattle.task_lists.specs.Runs.{all_emissions, traps_in_order, counts_of, kept_count}
use Rattle.task_lists.specs.Tasks.{Split, Lists, Task, asks_of, world_for, given_to, map_task_of, map_count}

-- ---- of any task

-- the counts that a task keeps
abbrev pub kept_counts : World → Task → List ℕ
kept_counts w task = map kept_count (counts_of (world_for w task) task.does task.elements)

-- the first trap of the task, in the order of its elements and calls
abbrev pub IsFirstTaskTrap : World → Task → Trap → Type 0
IsFirstTaskTrap w task trap =
    slice_get (traps_in_order (world_for w task) task.does task.elements) 0 ≡ Some trap

-- no call of the task traps
abbrev pub IsCalm : World → Task → Type 0
IsCalm w task = traps_in_order (world_for w task) task.does task.elements ≡ []

-- ---- of a map task

-- the pairs of a grouping channel: by the partition of their keys; or, where the channel is lifted,
-- for each partition accumulators that stand for its pairs
abbrev pub AreSentPairs : Option Comb → ℕ → Sent → List Value → Type 0
AreSentPairs None partitions sent pairs = ArePairsOf partitions (Some sent) pairs
AreSentPairs (Some c) partitions sent pairs = ArePartialsOf c partitions (Some sent) pairs

-- what an output channel gets, where `given` says what the task gives to a channel that takes these
abbrev pub IsSent : ℕ → (List Take → List Value) → OutChannel → Sent → Type 0
IsSent partitions given (Pass k number) sent = sent ≡ Passed (given (k ∷ []))
IsSent partitions given (Group g) sent = AreSentPairs g.lifted partitions sent (given g.takes)

-- the out of shard i of input channel m of the stage, where nothing traps
pub record IsMapOut (w : World) (n : Split) (t : Lists) (s : Mscr) (m i : ℕ) (out : MapOut)
    : Type 0 where
  pub calm : IsCalm w (map_task_of n t s.inputs m i)
  pub sent :
      AllZip (IsSent n.partitions (given_to w (map_task_of n t s.inputs m i) m)) s.outputs out.sent
  pub counts : out.counts ≡ kept_counts w (map_task_of n t s.inputs m i)

-- the value of a map task: its first trap, or its out
abbrev pub IsMapValue : World → Split → Lists → Mscr → ℕ → ℕ → Result MapOut Trap → Type 0
IsMapValue w n t s m i (Ok out) = IsMapOut w n t s m i out
IsMapValue w n t s m i (Err trap) = IsFirstTaskTrap w (map_task_of n t s.inputs m i) trap

-- an out of each map task of the stage, in order of tasks
pub record AreMapOuts (w : World) (n : Split) (t : Lists) (s : Mscr) (outs : List MapOut)
    : Type 0 where
  pub count : length outs ≡ map_count n s
  pub each : (k : ℕ) → k < map_count n s →
      IsSomeAnd (slice_get outs k) (IsMapOut w n t s (k / n.shards) (k % n.shards))

-- ---- of a reduce task

-- what a combination answers of each key beside what its list comes to
abbrev pub answers_of : List (Value × Result Value Kind) → List Called
answers_of finished = map (λ it. of_combine it.0 it.1) finished

-- what a reduce task gives where nothing traps: what is emitted to each of its outputs, the counts
-- of
-- its steps, and the number of its groups
pub record IsReduceOut (w : World) (task : Task) (given : List (List Value)) (counted : List ℕ)
    (number : ℕ) : Type 0 where
  pub calm : IsCalm w task
  pub outputs : given ≡ all_emissions (world_for w task) task.does task.elements
  pub counts : counted ≡ kept_counts w task
  pub groups : number ≡ kept_count (asks_of task)
