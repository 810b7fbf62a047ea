-- What is gathered of the outs of all map tasks of a stage, and that its reduce tasks can be made.
use Rattle.std.proofs.Common.{◌≡◌, ◌<◌, ◌≤◌, ◌/◌, ◌%◌, ◌^◌, ℕ, List, [], ◌∷◌, length, Bool, false, Option, Some, None, sym, ap, ◌∙◌, subst, append-nil, arith, refl, slice_get}
use Rattle.std.specs.Prelude.{All, IsSome, IsTrue}
use Rattle.std.specs.List.{AllByRecursion as Each}
use Rattle.std.specs.Option.{option_map, option_map_or}
use Rattle.std.proofs.lemmas.List.Elements.{All-weaker}
use Rattle.flume_value.specs.declared.value.Value.{Value}
use Rattle.bag_groups.specs.Pairs.{IsPair, parts_of}
use Rattle.combine_table.specs.declared.comb.Comb.{Comb}
use Rattle.shuffle_parts.specs.declared.out.MapOut.{MapOut}
use Rattle.shuffle_parts.specs.Partitions.{falls_in, is_in_part, pairs_in_part}
use Rattle.shuffle_parts.proofs.Passing.{grouped-passing}
use Rattle.shuffle_parts.proofs.Whole.{part_own}
use Rattle.exec_graph.specs.World.{World}
use Rattle.exec_plan.specs.declared.plan.Grouping.{Grouping}
use Rattle.exec_plan.specs.declared.plan.Mscr.{Mscr}
use Rattle.exec_plan.specs.declared.plan.OutChannel.{OutChannel}
use Rattle.exec_plan.specs.declared.plan.OutChannel.TheVariants.{Group, Pass}
use Rattle.lifted_root.specs.of_task_lists.Tasks.{Split, Lists, Task, gathered, groupings, reduce_task}
use Rattle.lifted_root.specs.of_task_lists.Outs.{AreMapOuts}
use Rattle.lifted_root.proofs.of_task_lists.Sending.{pairs_whole, partials_whole}
use Rattle.forest_steps.specs.Safety.{SafeOf}
use Rattle.task_safety.proofs.Fitting.{IsOutSomewhere, few_tasks}
use Rattle.reduce_part.specs.Reducing.{AreGroupsFirst, CanReduce, IsGathered, group_task, reducing_of}

-- what falls in a partition is a pair
with_key : (f : Value → Bool) (o : Option (Value × Value))
    → IsTrue (option_map_or f (option_map (λ parts. parts.0) o) false) → IsSome o
with_key f None h = cc h
with_key f (Some parts) h = refl

part_pairs : (n p : ℕ) (pairs : List Value) → All IsPair (pairs_in_part n p pairs)
part_pairs n p pairs =
    All-weaker (λ pair. IsTrue (falls_in n p pair)) IsPair
    (λ pair falls. with_key (is_in_part n p) (parts_of pair) falls) (pairs_in_part n p pairs)
    (part_own n p pairs)

module _ (w : World) (n : Split) (t : Lists) (s : Mscr) (outs : List MapOut) (r : ℕ)
    (some : 0 < n.shards) (made : AreMapOuts w n t s outs) where
  -- the pairs of the partition, which the accumulators of a lifted channel stand for
  abbrev pub pairs_at : Grouping → ℕ → List Value
  pairs_at g p = pairs_in_part n.partitions p (gathered w n t s.inputs g.takes)

  gathered_by : (g : Grouping) (p : ℕ) → p < n.partitions
      → slice_get s.outputs r ≡ Some (Group g) → (lifted : Option Comb) → g.lifted ≡ lifted
      → IsGathered lifted outs r p (pairs_at g p)
  gathered_by g p below at None is = (
    pairs_whole w n t s outs r some made p g below at is,
    part_pairs n.partitions p (gathered w n t s.inputs g.takes),
  )
  gathered_by g p below at (Some c) is =
      partials_whole w n t s outs r some made p g c below at is

  pub gathered_at : (g : Grouping) (p : ℕ) → p < n.partitions
      → slice_get s.outputs r ≡ Some (Group g) → IsGathered g.lifted outs r p (pairs_at g p)
  gathered_at g p below at = gathered_by g p below at g.lifted refl

  -- its groups are the elements of the reduce task
  pub task_is : (g : Grouping) (p : ℕ)
      → group_task g (pairs_at g p) ≡ reduce_task w n t s.inputs g p
  task_is g p =
      let groups = grouped-passing (is_in_part n.partitions p) (gathered w n t s.inputs g.takes) in
      let of : List Value → Task = λ l. record { elements = l; beside = None; does = g.does } in
      ap of groups

-- not more channels group than there are
pub few_groupings : (channels : List OutChannel) → length (groupings channels) ≤ length channels
few_groupings [] = omega arith
few_groupings (Group g ∷ cs) = let rest = few_groupings cs in omega arith
few_groupings (Pass k n ∷ cs) = let rest = few_groupings cs in omega arith

module _ {F : Type 0} (functions : F) (w : World) (n : Split) (t : Lists) (s : Mscr)
    (outs : List MapOut) (takes : ℕ → Value → Type 0) (called : World)
    (first : AreGroupsFirst s.outputs) (some : 0 < n.shards) (made : AreMapOuts w n t s outs)
    (out_ok : (i : ℕ) (c : OutChannel) → slice_get s.outputs i ≡ Some c
    → IsOutSomewhere s.inputs c)
    (safe : (i p : ℕ) (g : Grouping) → slice_get s.outputs i ≡ Some (Group g)
    → Each (SafeOf called takes g.does) (reduce_task w n t s.inputs g p).elements) where
  pub can_reduce : 0 < n.partitions → n.partitions ≤ 64 → length s.outputs ≤ 2 ^ 17
      → CanReduce called takes (reducing_of functions s outs n.partitions)
  can_reduce some_partitions small few = record {
    shards = n.shards;
    some = some;
    outs = made.count;
    partitions = some_partitions;
    few =
        let channels = few_groupings s.outputs in
        let most = few_tasks (length (groupings s.outputs)) n.partitions (omega arith)
        (omega (arith, small)) in omega arith;
    first = first;
    ready = λ i p g at below.
        let place = first i g at in
        let ok = (out_ok i (Group g) place).ok in record {
          numbered = ok.steps;
          lift = ok.lift;
          pairs = pairs_at w n t s outs i some made g p;
          gathered = gathered_at w n t s outs i some made g p below place;
          safe = subst (λ (x : Task). Each (SafeOf called takes g.does) x.elements)
              (sym (task_is w n t s outs i some made g p)) (safe i p g place);
        };
  }
