-- The output channels of a stage, one after another.
use Rattle.std.specs.Prelude.{◌≡◌, ℕ, ◌+◌, List, ◌++◌, drop, sum}
use Rattle.std.specs.List.{flat_map}
use Rattle.flume_value.specs.declared.value.Value.{Value}
use Rattle.exec_graph.specs.World.{World}
use Rattle.exec_plan.specs.declared.plan.Mscr.{Mscr}
use Rattle.stage_phases.specs.of_reduce_part.declared.out.ReduceOut.{ReduceOut}
use Rattle.step_counts.specs.Sizes.{HaveGrown}
use Rattle.task_lists.specs.Lists.{given_lists}
use Rattle.task_lists.specs.Tasks.{Lists, Split}
use Rattle.stage_results.specs.inner.Channels.{AreOutsFrom, channel_counts}

-- behind the first r channels: the outs that are left are those of the other channels, and with
-- what these give the lists and the counts so far come to the whole
pub record AreAlong (w : World) (n : Split) (t : Lists) (s : Mscr) (r : ℕ) (outs : List ReduceOut)
    (lists : List (List Value)) (olds news : List ℕ) : Type 0 where
  pub outs_left : AreOutsFrom w n t s.inputs (drop r s.outputs) outs
  pub lists_left : lists ++ flat_map (given_lists w n t s.inputs) (drop r s.outputs)
      ≡ flat_map (given_lists w n t s.inputs) s.outputs
  pub counted : ℕ → ℕ
  pub grown : HaveGrown counted olds news
  pub counts_left : (i : ℕ) →
      counted i + sum (flat_map (channel_counts w i n t s.inputs) (drop r s.outputs))
      ≡ sum (flat_map (channel_counts w i n t s.inputs) s.outputs)
