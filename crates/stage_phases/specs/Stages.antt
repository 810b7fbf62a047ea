-- The world of a run, and when the reduce tasks of a stage can be run.
use Rattle.std.specs.Prelude.{◌≡◌, ℕ, ◌<◌, List, slice_get}
use Rattle.flume_value.specs.declared.value.Value.{Value}
use Rattle.flume_collection.specs.Calls.{Called, or_none}
use Rattle.exec_graph.specs.World.{World}
use Rattle.exec_plan.specs.declared.plan.Mscr.{Mscr as Channels}
use Rattle.exec_plan.specs.declared.plan.Stage.TheVariants.{Mscr}
use Rattle.shuffle_parts.specs.declared.out.MapOut.{MapOut}
use Rattle.task_lists.specs.Outs.{AreMapOuts}
use Rattle.task_lists.specs.Tasks.{Lists, Split}
use Rattle.map_shard.specs.of_task_safety.Stages.{CanRunStage}

-- the world of a run: what its functions answer, and the rows of each source. There is a list for
-- each source of the plan that is run; no other number has rows
abbrev pub run_world : (ℕ → Value → Called) → List (List Value) → World
run_world called sources = record { rows = λ r. or_none (slice_get sources r); called = called }

-- the outs of the map tasks of the stage are right, in some world of these functions over some
-- lists that the stage finds, and the stage can be run over them
pub record CanReduceStage (called : ℕ → Value → Called) (takes : ℕ → Value → Type 0)
    (n : Split) (k : ℕ) (s : Channels) (maps : List MapOut) : Type 0 where
  pub cut : (0 < n.shards) × (0 < n.partitions)
  pub world : World
  pub answers : world.called ≡ called
  pub lists : Lists
  pub ready : CanRunStage world takes k lists (Mscr s)
  pub made : AreMapOuts world n lists s maps
