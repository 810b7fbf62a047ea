-- The map tasks of a stage that fits its types can be made, and their values are the stage's outs.
use Rattle.std.proofs.Common.{◌≡◌, ◌*◌, ◌<◌, ◌≤◌, ◌/◌, ◌%◌, ℕ, zero, suc, false, List, [], ◌∷◌, length, Some, refl, sym, ap, subst, arith, slice_get}
use Rattle.std.specs.Prelude.{Ok}
use Rattle.std.specs.List.{AllByRecursion as Each}
use Rattle.std.specs.Option.{IsSomeAnd}
use Rattle.flume_value.specs.declared.value.Value.{Value}
use Rattle.flume_collection.specs.Calls.{Called}
use Rattle.shuffle_parts.specs.declared.out.MapOut.{MapOut}
use Rattle.exec_graph.specs.World.{World}
use Rattle.exec_plan.specs.declared.plan.Grouping.{Grouping}
use Rattle.exec_plan.specs.declared.plan.Mscr.{Mscr as Channels}
use Rattle.exec_plan.specs.declared.plan.OutChannel.{OutChannel}
use Rattle.exec_plan.specs.declared.plan.OutChannel.TheVariants.{Group, Pass}
use Rattle.exec_plan.specs.declared.plan.Stage.TheVariants.{Mscr}
use Rattle.exec_plan.specs.declared.plan.Take.{Take}
use Rattle.exec_plan.specs.Wellformed.{Exists, IsLiftOk}
use Rattle.task_safety.specs.of_task_lists.Outs.{AreMapOuts, IsMapOut}
use Rattle.task_safety.specs.of_task_lists.Tasks.{Task, given_to, map_task_of, world_for}
use Rattle.task_safety.specs.of_task_lists.Typing.{AreGroupable}
use Rattle.forest_steps.specs.Functions.{world_of}
use Rattle.forest_steps.specs.Safety.{SafeOf}
use Rattle.task_safety.specs.Stages.{CanRunStage}
use Rattle.task_safety.specs.Taking.{taking}
use Rattle.task_safety.proofs.Fitting.{IsOutSomewhere, each_placed, few_tasks, out_at}
use Rattle.map_shard.specs.Tables.{split_into, table}
use Rattle.map_shard.specs.Work.{CanWork, IsFit, IsWorkValue, Work, work_of}
use Rattle.map_shard.proofs.Working.{same_given_to}

there : {X : Type 0} (xs : List X) (i : ℕ) → i < length xs
    → (x : X) × (slice_get xs i ≡ Some x)
there [] i h = absurd (omega arith)
there (x ∷ xs) zero h = (x, refl)
there (x ∷ xs) (suc i) h = there xs i (omega arith)

module _ {F : Type 0} (functions : F) (sources : List (List Value))
    (results : List (List (List Value))) (s : Channels) (shards partitions : ℕ) (w : World) where
  abbrev Work_ : Work F
  Work_ = work_of functions sources results s shards partitions

  abbrev task_of : ℕ → ℕ → Task
  task_of m i = map_task_of (split_into shards partitions) (table sources results) s.inputs m i

  -- ---- they can be made

  module _ (called : ℕ → Value → Called) (takes : ℕ → Value → Type 0) (k : ℕ)
      (same : w.called ≡ called)
      (ready : CanRunStage w takes k (table sources results) (Mscr s))
      (given : (r m i : ℕ) (g : Grouping) → slice_get s.outputs r ≡ Some (Group g)
      → Each (Exists s.inputs) g.takes → IsLiftOk g.lifted g.does
      → AreGroupable g.lifted (given_to w (task_of m i) m g.takes)) where
    fit_at : (m i r : ℕ) (c : OutChannel) → slice_get s.outputs r ≡ Some c
        → IsOutSomewhere s.inputs c
        → IsFit s.inputs (given_to (world_of called) (task_of m i) m) c
    fit_at m i r (Pass take number) at o = o.ok.1
    fit_at m i r (Group g) at o =
        let group = o.ok in
        let alike = same_given_to w (world_of called) same (task_of m i) m in (
          group.takes,
          subst (AreGroupable g.lifted) (ap (λ (f : List Take → List Value). f g.takes) alike)
              (given r m i g at group.takes group.lift),
        )

    fits : (m i : ℕ)
        → Each (IsFit s.inputs (given_to (world_of called) (task_of m i) m)) s.outputs
    fits m i =
        each_placed (IsFit s.inputs (given_to (world_of called) (task_of m i) m)) s.outputs
        (λ r c at. fit_at m i r c at (out_at s.inputs false 0 s.outputs ready.ok.channels r c at))

    pub can_work : 0 < shards → shards ≤ 1024 → 0 < partitions
        → ((m i : ℕ) → Each (SafeOf (world_for (world_of called) (task_of m i))
        (taking (task_of m i).beside takes) (task_of m i).does) (task_of m i).elements)
        → CanWork (world_of called) takes Work_
    can_work some few some_partitions safe =
        let inputs = ready.ok.few_inputs in record {
          shards = some;
          partitions = some_partitions;
          few = let most = few_tasks (length s.inputs) shards inputs few in omega arith;
          steps = ready.ok.steps;
          ready = λ m i channel shard. record { safe = safe m i; fit = fits m i };
        }

  -- ---- outs that are their values

  pub are_outs : (called : ℕ → Value → Called) → w.called ≡ called → (outs : List MapOut)
      → length outs ≡ length s.inputs * shards
      → ((k : ℕ) (out : MapOut) → slice_get outs k ≡ Some out
      → IsWorkValue called Work_ k (Ok out))
      → AreMapOuts w (split_into shards partitions) (table sources results) s outs
  are_outs called same outs count values = record {
    count = count;
    each = λ k below.
        let here = there outs k (subst (λ m. k < m) (sym count) below) in
        subst (λ o. IsSomeAnd o (IsMapOut w (split_into shards partitions) (table sources results) s
        (k / shards) (k % shards))) (sym here.1) (values k here.0 here.1 w same);
  }
