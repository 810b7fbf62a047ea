-- A task in legs: what the steps give of some elements, and the counts of two legs together.
use Rattle.std.specs.Prelude.{◌≡◌, ◌<◌, ℕ, ◌+◌, ◌-◌, ◌^◌, min, drop, List, [], ◌∷◌, map, Option, Some, None, Result, Ok, Err, slice_get}
use Rattle.std.specs.List.{AllByRecursion, AllZip}
use Rattle.flume_value.specs.declared.value.Value.{Value}
use Rattle.flume_collection.specs.Calls.{Called}
use Rattle.flume_collection.specs.declared.trap.Trap.{Trap}
use Rattle.shuffle_parts.specs.declared.out.MapOut.{MapOut}
use Rattle.exec_graph.specs.Forests.{Forest}
use Rattle.exec_graph.specs.World.{World}
use Rattle.exec_plan.specs.Wellformed.{IsNumbered}
use Rattle.exec_plan.specs.declared.plan.OutChannel.{OutChannel}
use Rattle.task_safety.specs.of_task_lists.Outs.{IsSent}
use Rattle.task_safety.specs.of_task_lists.Runs.{all_emissions, counts_of, kept_count, traps_in_order}
use Rattle.forest_steps.specs.Functions.{world_of}
use Rattle.forest_steps.specs.Safety.{SafeOf}
use Rattle.map_shard.specs.declared.legs.Legs.{Legs}
use Rattle.map_shard.specs.declared.legs.Steps.{Steps}
use Rattle.map_shard.specs.inner.Fillings.{IsFilled}
use Rattle.map_shard.specs.inner.Sending.{CanSend, taken}
use Rattle.map_shard.specs.inner.Takes.{AreTakes}

-- ---- counts

-- each with the one at its place, where there is one
abbrev pub each_with : {A B C : Type 0} → (A → Option B → C) → List A → List B → List C
each_with f [] ys = []
each_with f (x ∷ xs) ys = f x (slice_get ys 0) ∷ each_with f xs (drop 1 ys)

abbrev pub count_with : ℕ → Option ℕ → ℕ
count_with n None = n
count_with n (Some m) = min (n + m) (2 ^ 64 - 1)

-- ---- what the steps on some elements of input channel m give
module _ (w : World) (p m : ℕ) (does : Option Forest) (os : List OutChannel)
    (xs : List Value) where
  -- nothing traps; what the output channels were given, and the counts
  pub record AreLegs (legs : Legs) : Type 0 where
    pub calm : traps_in_order w does xs ≡ []
    pub filled : AllZip (IsFilled p (taken m (all_emissions w does xs))) os legs.fillings.items
    pub counts : legs.counts.items ≡ map kept_count (counts_of w does xs)

  -- that, or the first trap
  abbrev pub AreLegsOr : Result Legs Trap → Type 0
  AreLegsOr (Ok legs) = AreLegs legs
  AreLegsOr (Err trap) = slice_get (traps_in_order w does xs) 0 ≡ Some trap

  -- the same of what the channels get in the end
  pub record IsWhole (out : MapOut) : Type 0 where
    pub calm : traps_in_order w does xs ≡ []
    pub sent : AllZip (IsSent p (taken m (all_emissions w does xs))) os out.sent
    pub counts : out.counts ≡ map kept_count (counts_of w does xs)

  abbrev pub IsWholeOr : Result MapOut Trap → Type 0
  IsWholeOr (Ok out) = IsWhole out
  IsWholeOr (Err trap) = slice_get (traps_in_order w does xs) 0 ≡ Some trap

-- ---- the same of the steps of a map task

module _ {F : Type 0} (w : World) (steps : Steps F) where
  -- they may be called on these elements, and what they give may be sent
  pub record CanRunIn (takes : ℕ → Value → Type 0) (xs : List Value) : Type 0 where
    pub some : 0 < steps.partitions
    pub numbered : IsNumbered steps.does.now
    pub taken : AreTakes steps.m steps.channels.now steps.takes.now
    pub safe : AllByRecursion (SafeOf w takes steps.does.now) xs
    pub fit : AllByRecursion (CanSend steps.m (all_emissions w steps.does.now xs))
        steps.channels.now

  abbrev pub IsWholeIn : List Value → Result MapOut Trap → Type 0
  IsWholeIn xs = IsWholeOr w steps.partitions steps.m steps.does.now steps.channels.now xs

-- in the world in which functions answer as those of the task
module _ {F : Type 0} (called : F → ℕ → Value → Called) (steps : Steps F) where
  abbrev pub own_world : World
  own_world = world_of (called steps.functions.now)

  abbrev pub CanRun : (F → ℕ → Value → Type 0) → List Value → Type 0
  CanRun can_call = CanRunIn own_world steps (can_call steps.functions.now)

  abbrev pub HaveRun : List Value → Result Legs Trap → Type 0
  HaveRun xs = AreLegsOr own_world steps.partitions steps.m steps.does.now steps.channels.now xs
