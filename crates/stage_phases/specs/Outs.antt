-- The outs of the tasks of a stage.
use Rattle.std.specs.Prelude.{◌≡◌, ℕ, ◌<◌, List, length, slice_get}
use Rattle.std.specs.Option.{IsSomeAnd}
use Rattle.exec_graph.specs.World.{World}
use Rattle.exec_plan.specs.declared.plan.Mscr.{Mscr}
use Rattle.shuffle_parts.specs.declared.out.MapOut.{MapOut}
use Rattle.task_lists.specs.Outs.{AreMapOuts, IsReduceOut}
use Rattle.task_lists.specs.Tasks.{Lists, Split, Task, reduce_count, reduce_task_at}
use Rattle.reduce_part.specs.declared.out.ReduceOut.{ReduceOut}

-- what the task gives, where nothing traps
abbrev pub IsOutOf : World → Task → ReduceOut → Type 0
IsOutOf w task out = IsReduceOut w task out.outputs out.counts out.groups

-- an out of each reduce task of the stage, in order of tasks
pub record AreReduceOuts (w : World) (n : Split) (t : Lists) (s : Mscr) (outs : List ReduceOut)
    : Type 0 where
  pub count : length outs ≡ reduce_count n s
  pub each : (k : ℕ) → k < reduce_count n s →
      IsSomeAnd (slice_get outs k) (IsOutOf w (reduce_task_at w n t s k))

-- the outs of all its tasks, of both phases
pub record AreStageOuts (w : World) (n : Split) (t : Lists) (s : Mscr) (of_maps : List MapOut)
    (of_reduces : List ReduceOut) : Type 0 where
  pub maps : AreMapOuts w n t s of_maps
  pub reduces : AreReduceOuts w n t s of_reduces
