-- A map task by its number.
use Rattle.std.proofs.Common.{◌≡◌, ◌<◌, ◌≤◌, ◌/◌, ◌%◌, ℕ, zero, suc, cond, List, [], ◌∷◌, length, get_or, map, Option, Some, refl, sym, ap, ◌∙◌, subst, arith}
use Rattle.std.specs.Prelude.{◌==◌, slice_get, Result, Ok, Err}
use Rattle.std.specs.List.{AllByRecursion, AllZip, flat_map}
use Rattle.std.specs.Option.{option_map_or}
use Rattle.std.proofs.lemmas.Nat.{row_below_turned}
use Rattle.std.proofs.Math.Nat.{mod-lt}
use Rattle.flume_value.specs.declared.value.Value.{Value}
use Rattle.flume_collection.specs.declared.trap.Trap.{Trap}
use Rattle.shards.specs.Shards.{shard}
use Rattle.shuffle_parts.specs.declared.out.MapOut.{MapOut}
use Rattle.exec_graph.specs.Objects.{world_beside}
use Rattle.exec_graph.specs.World.{World}
use Rattle.exec_plan.specs.Wellformed.{IsNumbered}
use Rattle.exec_plan.specs.declared.plan.InChannel.{InChannel}
use Rattle.exec_plan.specs.declared.plan.OutChannel.{OutChannel}
use Rattle.exec_plan.specs.declared.plan.Take.{Take}
use Rattle.task_safety.specs.of_task_lists.Runs.{all_emissions, kept_count}
use Rattle.task_safety.specs.of_task_lists.Outs.{IsMapValue, IsSent}
use Rattle.task_safety.specs.of_task_lists.Tasks.{Task, elements_beside, given_to, map_task, no_task, value_beside, world_for}
use Rattle.forest_steps.specs.Safety.{SafeOf}
use Rattle.task_safety.proofs.of_forest_courses.Worlds.{same_counts, same_gives, same_traps}
use Rattle.task_safety.specs.Taking.{taking}
use Rattle.task_safety.proofs.Taken.{same_beside}
use Rattle.map_shard.specs.Work.{Work, CanWork, CanRunShard, IsWorkValue, work_lists, shard_task, work_split, task_at, work_count}
use Rattle.map_shard.specs.declared.legs.Steps.{Steps}
use Rattle.map_shard.specs.inner.Legs.{CanRunIn, IsWholeOr}
use Rattle.map_shard.specs.inner.Sending.{CanSend}
use Rattle.map_shard.specs.inner.Takes.{AreTakes}
use Rattle.map_shard.proofs.Taking.{can_send, sent_given}

get_is : {X : Type 0} (xs : List X) (i : ℕ) (x : X) → i < length xs → x ≡ get_or xs i x
    → slice_get xs i ≡ Some x
get_is [] i x h is = absurd (omega arith)
get_is (y ∷ xs) zero x h is = ap Some (sym is)
get_is (y ∷ xs) (suc i) x h is = get_is xs i x (omega arith) is

found : {X : Type 0} (P : X → Type 0) (xs : List X) (i : ℕ) → AllByRecursion P xs
    → i < length xs → (x : X) × (slice_get xs i ≡ Some x) × P x
found P [] i all h = absurd (omega arith)
found P (x ∷ xs) zero all h = (x, refl, all.0)
found P (x ∷ xs) (suc i) all h = found P xs i all.1 (omega arith)

-- ---- the same in worlds in which functions answer alike
same_for : (v w : World) → v.called ≡ w.called → (task : Task)
    → (world_for v task).called ≡ (world_for w task).called
same_for v w same task = same_beside task.beside v w same

pub same_given_to : (v w : World) → v.called ≡ w.called → (task : Task) (m : ℕ)
    → given_to v task m ≡ given_to w task m
same_given_to v w same task m =
    let gives = same_gives (world_for v task) (world_for w task) (same_for v w same task) in
    λ i takes. flat_map
    (λ (k : Take). cond (k.channel == m) (gives task.does task.elements k.out i) []) takes

module _ {F : Type 0} (work : Work F) (m i : ℕ) where
  abbrev IsValue : World → Result MapOut Trap → Type 0
  IsValue w out = IsMapValue w (work_split work) (work_lists work) work.stage m i out

  same_out : (v w : World) → v.called ≡ w.called → (out : Result MapOut Trap) → IsValue v out
      → IsValue w out
  same_out v w same (Ok out) is =
      let task = shard_task work m i in
      let a : World = world_for v task in
      let b : World = world_for w task in
      let alike : a.called ≡ b.called = same_for v w same task in
      record {
        calm = sym (same_traps a b alike task.does task.elements) ∙ is.calm;
        sent = subst (λ given. AllZip (IsSent work.partitions given) work.stage.outputs out.sent)
            (same_given_to v w same task m) is.sent;
        counts = is.counts ∙ ap (map kept_count) (same_counts a b alike task.does task.elements);
      }
  same_out v w same (Err trap) is =
      let task = shard_task work m i in
      ap (λ ts. slice_get ts 0) (sym (same_traps (world_for v task) (world_for w task)
      (same_for v w same task) task.does task.elements)) ∙ is

  of_channel : (c : InChannel) → slice_get work.stage.inputs m ≡ Some c
      → shard_task work m i ≡ map_task (work_split work) (work_lists work) c i
  of_channel c is =
      ap (λ o. option_map_or (λ d. map_task (work_split work) (work_lists work) d i) o no_task) is

-- ---- task k
-- what holds of the task as it was read holds of it by its number
pub at_task : {F : Type 0} (P : Work F → Task → Type 0) {work self : Work F} {task : Task} (k : ℕ)
    → work ≡ self → task_at work k ≡ task → P work task → P self (task_at self k)
at_task P {work} k view is p =
    subst (λ x. P x (task_at x k)) view (subst (P work) (sym is) p)

module _ {F : Type 0} {w : World} {takes : ℕ → Value → Type 0} {work : Work F}
    (can : CanWork w takes work) (k : ℕ) (is_task : k < work_count work) where
  channel_below : k / work.shards < length work.stage.inputs
  channel_below =
      let same : work.shards ≤ work.shards = omega arith in
      (row_below_turned k work.shards (length work.stage.inputs) work.shards is_task same).1

  ready : CanRunShard w takes work (k / work.shards) (k % work.shards)
  ready = can.ready (k / work.shards) (k % work.shards) channel_below (mod-lt k can.shards)

  -- the channel that it reads, its elements, and the value beside which its steps are called
  pub task_is : {inputs : List InChannel} {c : InChannel} {list elements : List Value}
      {object : Option Value} → inputs ≡ work.stage.inputs
      → c ≡ get_or inputs (k / work.shards) c
      → list ≡ elements_beside (work_lists work) c.beside (work_lists work c.reads)
      → elements ≡ shard work.shards (k % work.shards) list
      → object ≡ value_beside (work_lists work) c.beside
      → task_at work k ≡ record { elements = elements; beside = object; does = c.does }
  task_is {inputs} {c} {list} {elements} {object} same is at e valued =
      let i = k % work.shards in
      of_channel work (k / work.shards) i c
      (get_is work.stage.inputs (k / work.shards) c channel_below
      (is ∙ ap (λ (l : List InChannel). get_or l (k / work.shards) c) same))
      ∙ (λ j. record {
        elements = sym (e ∙ ap (shard work.shards i) at) j;
        beside = sym valued j;
        does = c.does;
      })

  safe : {task : Task} → task_at work k ≡ task
      → AllByRecursion (SafeOf (world_for w task) (taking task.beside takes) task.does)
      task.elements
  safe is =
      subst (λ (t : Task). AllByRecursion (SafeOf (world_for w t) (taking t.beside takes) t.does)
      t.elements) is ready.safe

  channel : (c : InChannel) × (slice_get work.stage.inputs (k / work.shards) ≡ Some c)
      × IsNumbered c.does
  channel =
      found (λ c. IsNumbered c.does) work.stage.inputs (k / work.shards) can.steps channel_below

  does_is : (task_at work k).does ≡ channel.0.does
  does_is =
      ap (λ (t : Task). t.does)
      (of_channel work (k / work.shards) (k % work.shards) channel.0 channel.1)

  -- ---- what its steps give is fit for the output channels, and what those get is right
  abbrev Given : List (List Value)
  Given =
      all_emissions (world_for w (task_at work k)) (task_at work k).does (task_at work k).elements

  can_send_all : AllByRecursion (CanSend (k / work.shards) Given) work.stage.outputs
  can_send_all =
      can_send w work.stage.inputs (k / work.shards) channel.0 (task_at work k) channel.1
      does_is channel.2 Given refl work.stage.outputs ready.fit

  fit : {task : Task} → task_at work k ≡ task → (os : List OutChannel)
      → os ≡ work.stage.outputs
      → AllByRecursion
      (CanSend (k / work.shards) (all_emissions (world_for w task) task.does task.elements)) os
  fit {task} is os same =
      subst (AllByRecursion
      (CanSend (k / work.shards) (all_emissions (world_for w task) task.does task.elements)))
      (sym same)
      (subst (λ (t : Task). AllByRecursion
      (CanSend (k / work.shards) (all_emissions (world_for w t) t.does t.elements))
      work.stage.outputs) is can_send_all)

  pub can_run : {elements : List Value} {object : Option Value} (steps : Steps F)
      → task_at work k ≡ record { elements = elements; beside = object; does = steps.does.now }
      → steps.m ≡ k / work.shards → steps.partitions ≡ work.partitions
      → steps.channels.now ≡ work.stage.outputs
      → AreTakes steps.m steps.channels.now steps.takes.now
      → CanRunIn (world_beside object w) steps (taking object takes) elements
  can_run {elements} {object} steps is at parts same taken = record {
    some = subst (λ (n : ℕ). 0 < n) (sym parts) can.partitions;
    numbered =
        subst IsNumbered (sym (sym (ap (λ (t : Task). t.does) is) ∙ does_is)) channel.2;
    taken = taken;
    safe = safe is;
    fit = subst (λ (n : ℕ). AllByRecursion (CanSend n
        (all_emissions (world_beside object w) steps.does.now elements)) steps.channels.now)
        (sym at)
        (fit is steps.channels.now same);
  }

  whole_value : (out : Result MapOut Trap)
      → IsWholeOr (world_for w (task_at work k)) work.partitions (k / work.shards)
      (task_at work k).does work.stage.outputs (task_at work k).elements out
      → IsWorkValue w.called work k out
  whole_value (Ok out) whole u alike =
      same_out work (k / work.shards) (k % work.shards) w u (sym alike) (Ok out) (record {
        calm = whole.calm;
        sent = sent_given w work.stage.inputs (k / work.shards) channel.0 (task_at work k)
            channel.1 does_is channel.2 Given refl work.partitions work.stage.outputs out.sent
            ready.fit whole.sent;
        counts = whole.counts;
      })
  whole_value (Err trap) whole u alike =
      same_out work (k / work.shards) (k % work.shards) w u (sym alike) (Err trap) whole

  pub value_of : {task : Task} → task_at work k ≡ task → (os : List OutChannel)
      → os ≡ work.stage.outputs → (out : Result MapOut Trap)
      → IsWholeOr (world_for w task) work.partitions (k / work.shards) task.does os task.elements
      out
      → IsWorkValue w.called work k out
  value_of {task} is os same out whole =
      whole_value out
      (subst (λ (t : Task). IsWholeOr (world_for w t) work.partitions (k / work.shards) t.does
      work.stage.outputs t.elements out) (sym is)
      (subst (λ (cs : List OutChannel). IsWholeOr (world_for w task) work.partitions
      (k / work.shards) task.does cs task.elements out) same whole))
