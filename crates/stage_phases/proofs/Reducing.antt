-- The tasks of a reduce phase as a crew runs them.
use Rattle.std.proofs.Common.{◌≡◌, ℕ, true, false, ◌<◌, ◌≤◌, ◌*◌, ◌/◌, ◌%◌, ◌^◌, List, [], ◌∷◌, length, Option, Some, Result, Ok, Err, refl, sym, ap, ◌∙◌, subst, arith, slice_get, mod-lt, zero-mul}
use Rattle.std.specs.List.{list_any}
use Rattle.std.specs.Prelude.{option_and_then, unwrap_or}
use Rattle.std.specs.Option.{IsSomeAnd, option_map_or}
use Rattle.std.proofs.Math.Nat.{div-lt_iff_lt-mul, le-mul_of_pos_right}
use Rattle.std.proofs.lemmas.Option.{slice_get_within}
use Rattle.flume_value.specs.declared.value.Value.{Value}
use Rattle.flume_collection.specs.Calls.{Called}
use Rattle.flume_collection.specs.declared.trap.Trap.{Trap}
use Rattle.bag_groups.specs.Groups.{grouped}
use Rattle.combine_table.specs.declared.comb.Comb.{Comb}
use Rattle.outside.specs.declared.host.Phase.TheVariants.{Reduce}
use Rattle.crew.specs.Drills.{Settings}
use Rattle.shuffle_parts.specs.declared.out.MapOut.{MapOut}
use Rattle.phase_outs.proofs.Placing.{some_at}
use Rattle.exec_graph.specs.World.{World}
use Rattle.exec_plan.specs.declared.plan.Grouping.{Grouping}
use Rattle.exec_plan.specs.declared.plan.Mscr.{Mscr as Channels}
use Rattle.exec_plan.specs.declared.plan.OutChannel.{OutChannel}
use Rattle.exec_plan.specs.declared.plan.OutChannel.TheVariants.{Group, Pass}
use Rattle.exec_plan.specs.declared.plan.Stage.{Stage}
use Rattle.exec_plan.specs.Wellformed.{IsMscrOk}
use Rattle.task_lists.specs.Outs.{AreMapOuts, IsCalm, IsFirstTaskTrap}
use Rattle.task_lists.specs.Tasks.{Lists, Split, Task, groupings, no_task, asks_of, reduce_count, reduce_task, reduce_task_at}
use Rattle.reduce_part.specs.declared.out.ReduceOut.{ReduceOut}
use Rattle.reduce_part.specs.Reducing.{AreGroupsFirst, IsGathered, IsReducingValue, IsReduceValue, Reducing, group_count, group_task, reducing_count, reducing_places}
use Rattle.map_shard.specs.Tables.{split_into}
use Rattle.plan_phases.specs.Phases.{OfTasks, reduce_phase_of, reduce_phases, tasks_below}
use Rattle.stage_phases.specs.Outs.{AreReduceOuts, IsOutOf}
use Rattle.stage_phases.specs.Stages.{CanReduceStage}
use Rattle.stage_phases.specs.inner.Channels.{is_group}
use Rattle.stage_phases.specs.inner.Tasks.{AreValues, IsPhaseOf}
use Rattle.reduce_part.proofs.Shuffled.{few_groupings, gathered_at, pairs_at, task_is}
use Rattle.map_shard.proofs.of_task_safety.Fitting.{few_tasks}
use Rattle.stage_phases.proofs.Numbers.{at_below, length_below}

-- whether a channel groups says whether there is a reduce phase
pub no_groupings : (channels : List OutChannel) → list_any is_group channels ≡ false
    → groupings channels ≡ []
no_groupings [] e = refl
no_groupings (Group g ∷ cs) e = cc e
no_groupings (Pass k n ∷ cs) e = no_groupings cs e

pub some_groupings : (channels : List OutChannel) → list_any is_group channels ≡ true
    → 0 < length (groupings channels)
some_groupings [] e = cc e
some_groupings (Group g ∷ cs) e = omega arith
some_groupings (Pass k n ∷ cs) e = some_groupings cs e

pub one_phase : (w : World) (k : ℕ) (n : Split) (t : Lists) (s : Channels) (gs : List Grouping)
    → 0 < length gs → reduce_phases w k n t s gs ≡ OfTasks (reduce_phase_of w k n t s) ∷ []
one_phase w k n t s [] h = absurd (omega arith)
one_phase w k n t s (g ∷ gs) h = refl

pub no_outs : (w : World) (n : Split) (t : Lists) (s : Channels) (outs : List ReduceOut)
    → groupings s.outputs ≡ [] → outs ≡ [] → AreReduceOuts w n t s outs
no_outs w n t s outs none e =
    let count : reduce_count n s ≡ 0 = ap (λ (gs : List Grouping). length gs * n.partitions) none
    ∙ zero-mul n.partitions in record {
      count = ap length e ∙ sym count;
      each = λ k below. absurd (omega arith);
    }

-- a phase has some tasks, and not too many for a crew
pub count_within : {F : Type 0} (r made : Reducing F) → made ≡ r → 0 < r.partitions
    → r.partitions ≤ 64 → 0 < length (groupings r.stage.outputs)
    → length r.stage.outputs ≤ 2 ^ 17
    → (0 < reducing_count made) × (reducing_count made ≤ 2 ^ 27)
count_within r made is some few groups channels =
    let count = length (groupings r.stage.outputs) in
    let less = few_groupings r.stage.outputs in
    let most = few_tasks count r.partitions (omega arith) (omega (arith, few)) in
    let least = le-mul_of_pos_right count some in
    rw is (omega arith, omega arith)

module _ {F : Type 0} (r : Reducing F) (w : World) (called : ℕ → Value → Called)
    (same : w.called ≡ called) (shards : ℕ) (t : Lists) (takes : ℕ → Value → Type 0) (number : ℕ)
    (ready : CanReduceStage called takes (split_into shards r.partitions) number r.stage r.outs)
    (law : (sources : ℕ) (before : List Stage) (s : Channels) → IsMscrOk sources before s
    → AreGroupsFirst s.outputs)
    (made : AreMapOuts w (split_into shards r.partitions) t r.stage r.outs) where
  first : AreGroupsFirst r.stage.outputs
  first = law ready.ready.sources ready.ready.before r.stage ready.ready.ok

  some : 0 < shards
  some = ready.cut.0

  some_partitions : 0 < r.partitions
  some_partitions = ready.cut.1

  abbrev n : Split
  n = split_into shards r.partitions

  -- the pairs of a partition
  abbrev pairs_of_part : ℕ → Grouping → ℕ → List Value
  pairs_of_part i g p = pairs_at w n t r.stage r.outs i some made g p

  gathered_of : (i : ℕ) (g : Grouping) (p : ℕ) → p < r.partitions
      → slice_get r.stage.outputs i ≡ Some (Group g)
      → IsGathered g.lifted r.outs i p (pairs_of_part i g p)
  gathered_of i g p within place =
      gathered_at w n t r.stage r.outs i some made g p within place

  same_task : (i : ℕ) (g : Grouping) (p : ℕ)
      → group_task g (pairs_of_part i g p) ≡ reduce_task w n t r.stage.inputs g p
  same_task i g p = task_is w n t r.stage r.outs i some made g p

  -- ---- what they give

  abbrev task_of : ℕ → Task
  task_of k = reduce_task_at w n t r.stage k

  -- a task is of a grouping channel and of a partition
  record HasPlace (k : ℕ) : Type 0 where
    pub channel : Grouping
    pub at : slice_get (groupings r.stage.outputs) (k / r.partitions) ≡ Some channel
    pub place : slice_get r.stage.outputs (k / r.partitions) ≡ Some (Group channel)
    pub within : k % r.partitions < r.partitions
    pub is : task_of k ≡ reduce_task w n t r.stage.inputs channel (k % r.partitions)

  place_of : (k : ℕ) → k < reducing_count r → HasPlace k
  place_of k below =
      let within = (div-lt_iff_lt-mul some_partitions).1 below in
      let here = some_at (groupings r.stage.outputs) (k / r.partitions) within in
      let task : Option Grouping → Task = λ o. option_map_or
      (λ g. reduce_task w n t r.stage.inputs g (k % r.partitions)) o no_task in
      record {
        channel = here.0;
        at = here.1;
        place = first (k / r.partitions) here.0 here.1;
        within = mod-lt k some_partitions;
        is = ap task here.1;
      }

  value_of : (k : ℕ) (out : Result ReduceOut Trap) → k < reducing_count r
      → IsReducingValue called r k out → IsReduceValue w (task_of k) out
  value_of k out below is =
      let h = place_of k below in
      let i = k / r.partitions in
      let p = k % r.partitions in
      subst (λ x. IsReduceValue w x out) (same_task i h.channel p ∙ sym h.is)
      (is h.channel h.at w (pairs_of_part i h.channel p) same
      (gathered_of i h.channel p h.within h.place))

  -- a task of the phase, by its place among them
  below_count : (k : ℕ) (task : Task)
      → slice_get (tasks_below task_of (reducing_count r)) k ≡ Some task → k < reducing_count r
  below_count k task at =
      subst (λ m. k < m) (length_below task_of (reducing_count r))
      (slice_get_within (tasks_below task_of (reducing_count r)) k task at)

  pub is_reduce_phase : (k : ℕ) (s : Settings) → s.stage ≡ k → s.phase ≡ Reduce
      → ((lifted : Option Comb) (i p : ℕ) (pairs : List Value)
      → IsGathered lifted r.outs i p pairs
      → group_count lifted r.outs i p ≡ Some (length (grouped pairs)))
      → IsPhaseOf w (reduce_phase_of w k n t r.stage) s (reducing_count r)
      (IsReducingValue called r) (reducing_places r)
  is_reduce_phase k s stage phase counted = record {
    named = (sym stage, sym phase);
    count = length_below task_of (reducing_count r);
    calm = λ j task out at is.
        subst (IsCalm w) (at_below task_of (reducing_count r) j task at)
        (value_of j (Ok out) (below_count j task at) is).calm;
    trapped = λ j task trap at is.
        subst (λ x. IsFirstTaskTrap w x trap) (at_below task_of (reducing_count r) j task at)
        (value_of j (Err trap) (below_count j task at) is);
    asks = λ j task at.
        let h = place_of j (below_count j task at) in
        let i = j / r.partitions in
        let p = j % r.partitions in
        let asked : Option Grouping → ℕ =
        λ o. unwrap_or (option_and_then (λ g. group_count g.lifted r.outs i p) o) 0 in
        ap asked h.at
        ∙ ap (λ o. unwrap_or o 0)
        (counted h.channel.lifted i p (pairs_of_part i h.channel p)
        (gathered_of i h.channel p h.within h.place))
        ∙ ap asks_of
        (same_task i h.channel p ∙ sym h.is ∙ at_below task_of (reducing_count r) j task at);
  }

  pub are_reduce_outs : (outs : List ReduceOut)
      → AreValues (reducing_count r) (IsReducingValue called r) outs
      → AreReduceOuts w n t r.stage outs
  are_reduce_outs outs h = record {
    count = h.count;
    each = λ k below.
        let here = some_at outs k (subst (λ m. k < m) (sym h.count) below) in
        subst (λ o. IsSomeAnd o (IsOutOf w (task_of k))) (sym here.1)
        (value_of k (Ok here.0) below (h.values k here.0 here.1));
  }
