-- The outs of reduce tasks, channel by channel.
use Rattle.std.specs.Prelude.{◌≡◌, ℕ, ◌<◌, List, [], ◌∷◌, ◌++◌, length, map, Some, slice_get}
use Rattle.std.specs.Option.{IsSomeAnd}
use Rattle.exec_graph.specs.of_flume_collection.Calls.{or_none}
use Rattle.flume_value.specs.declared.value.Value.{Value}
use Rattle.shards.specs.Shards.{concatenated}
use Rattle.exec_graph.specs.World.{World}
use Rattle.exec_plan.specs.declared.plan.Grouping.{Grouping}
use Rattle.exec_plan.specs.declared.plan.InChannel.{InChannel}
use Rattle.exec_plan.specs.declared.plan.Mscr.{Mscr}
use Rattle.exec_plan.specs.declared.plan.OutChannel.{OutChannel}
use Rattle.exec_plan.specs.declared.plan.OutChannel.TheVariants.{Group, Pass}
use Rattle.stage_phases.specs.of_reduce_part.declared.out.ReduceOut.{ReduceOut}
use Rattle.shuffle_parts.specs.Outs.{all_passed, passed_in}
use Rattle.shuffle_parts.specs.declared.out.MapOut.{MapOut}
use Rattle.shuffle_parts.specs.declared.out.Sent.{Sent}
use Rattle.stage_phases.specs.Outs.{IsOutOf}
use Rattle.task_lists.specs.Outs.{AreMapOuts}
use Rattle.task_lists.specs.Plans.{task_counts}
use Rattle.task_lists.specs.Tasks.{Lists, Split, reduce_task}

-- lists side by side, each of the second behind the one at its place
abbrev pub each_joined : {A : Type 0} → List (List A) → List (List A) → List (List A)
each_joined [] ys = ys
each_joined (x ∷ xs) [] = x ∷ xs
each_joined (x ∷ xs) (y ∷ ys) = (x ++ y) ∷ each_joined xs ys

-- what is moved of what a map task gives each channel: nothing of one through which no values pass
abbrev pub passed_by : List Sent → List (List Value)
passed_by sent = map (λ s. or_none (passed_in s)) sent

-- the outs of the tasks of a grouping channel, in order of partitions
pub record AreOutsOf (w : World) (n : Split) (t : Lists) (ins : List InChannel) (g : Grouping)
    (outs : List ReduceOut) : Type 0 where
  pub count : length outs ≡ n.partitions
  pub each : (p : ℕ) → p < n.partitions →
      IsSomeAnd (slice_get outs p) (IsOutOf w (reduce_task w n t ins g p))

-- the lists of the outputs of several outs, side by side
abbrev pub all_joined : List (List Value) → List ReduceOut → List (List Value)
all_joined lists [] = lists
all_joined lists (out ∷ outs) = all_joined (each_joined lists out.outputs) outs

-- the outs of the tasks of an output channel, which are reduce tasks where it groups
abbrev pub AreOutsAt : World → Split → Lists → List InChannel → OutChannel → List ReduceOut → Type 0
AreOutsAt w n t ins (Group g) outs = AreOutsOf w n t ins g outs
AreOutsAt w n t ins (Pass k number) outs = outs ≡ []

-- P holds of the first of these outs
abbrev pub StartsWith : (List ReduceOut → Type 0) → List ReduceOut → Type 0
StartsWith P outs =
    (here : List ReduceOut) × (behind : List ReduceOut) × (outs ≡ here ++ behind) × P here

-- what has passed through an output channel of the stage, where its map tasks made some outs
pub record HavePassed (w : World) (n : Split) (t : Lists) (s : Mscr) (channel : OutChannel)
    (passed : List Value) : Type 0 where
  pub maps : List MapOut
  pub made : AreMapOuts w n t s maps
  pub number : ℕ
  pub at : slice_get s.outputs number ≡ Some channel
  pub is : (values : List Value) → all_passed maps number ≡ Some values → passed ≡ values

-- the outs of the tasks of several
abbrev pub AreOutsFrom : World → Split → Lists → List InChannel → List OutChannel → List ReduceOut
    → Type 0
AreOutsFrom w n t ins [] outs = outs ≡ []
AreOutsFrom w n t ins (c ∷ cs) outs =
    (here : List ReduceOut) × (behind : List ReduceOut) × (outs ≡ here ++ behind)
    × AreOutsAt w n t ins c here × AreOutsFrom w n t ins cs behind

-- what they count for script node i
abbrev pub channel_counts : World → ℕ → Split → Lists → List InChannel → OutChannel → List ℕ
channel_counts w i n t ins (Group g) =
    concatenated (λ p. (task_counts w i).reduces g (reduce_task w n t ins g p)) n.partitions
channel_counts w i n t ins (Pass k number) = []
