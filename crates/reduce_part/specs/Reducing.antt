-- The reduce tasks of a stage: what they read, when they can be made, and what is right for them to
-- give.
use Rattle.std.specs.Prelude.{◌≡◌, ℕ, ◌<◌, ◌*◌, ◌/◌, ◌%◌, ◌^◌, All, List, length, slice_get, IsSomeAnd, Option, Some, None, Result, Ok, Err, option_and_then, option_map, unwrap_or, refl}
use Rattle.std.specs.List.{AllByRecursion}
use Rattle.std.specs.Coded.{Coded, code_by, coded×, coded_ℕ, coded_list}
use Rattle.flume_value.specs.declared.value.Value.{Value}
use Rattle.flume_collection.specs.declared.trap.Trap.{Trap}
use Rattle.flume_collection.specs.Calls.{Called}
use Rattle.bag_groups.specs.Groups.{grouped}
use Rattle.bag_groups.specs.Pairs.{IsPair, pairs_of}
use Rattle.combine_table.specs.declared.comb.Comb.{Comb}
use Rattle.partial_tables.specs.Merges.{StandFor, merged_by_key}
use Rattle.shuffle_parts.specs.declared.out.MapOut.{MapOut}
use Rattle.shuffle_parts.specs.contracts.out.MapOut as map_outs
use Rattle.shuffle_parts.specs.Outs.{all_pairs, all_partials}
use Rattle.exec_graph.specs.World.{World}
use Rattle.exec_plan.specs.Wellformed.{IsLiftOk, IsNumbered}
use Rattle.exec_plan.specs.declared.plan.Grouping.{Grouping}
use Rattle.exec_plan.specs.declared.plan.Mscr.{Mscr}
use Rattle.exec_plan.specs.declared.plan.OutChannel.{OutChannel}
use Rattle.exec_plan.specs.declared.plan.OutChannel.TheVariants.{Group}
use Rattle.exec_plan.specs.contracts.plan.Mscr as stages
use Rattle.lifted_root.specs.of_task_lists.Outs.{IsFirstTaskTrap, IsReduceOut}
use Rattle.lifted_root.specs.of_task_lists.Tasks.{Task, groupings}
use Rattle.forest_steps.specs.Safety.{SafeOf}
use Rattle.reduce_part.specs.declared.out.ReduceOut.{ReduceOut}

-- functions, a stage, the outs of its map tasks, and into how many partitions its grouping channels
-- are split
pub record Reducing (F : Type 0) : Type 0 where
  pub functions : F
  pub stage : Mscr
  pub outs : List MapOut
  pub partitions : ℕ

abbrev pub reducing_code : {F : Type 0} → Coded F → Coded (Reducing F)
reducing_code {F} code =
    code_by (F × (Mscr × (List MapOut × ℕ)))
    (coded× code
    (coded× stages.the_row.coded (coded× (coded_list map_outs.the_row.coded) coded_ℕ)))
    (λ r. (r.functions, (r.stage, (r.outs, r.partitions))))
    (λ p. record {
      functions = p.0;
      stage = p.1.0;
      outs = p.1.1.0;
      partitions = p.1.1.1;
    })
    (λ _. refl)

abbrev pub reducing_of : {F : Type 0} → F → Mscr → List MapOut → ℕ → Reducing F
reducing_of functions stage outs partitions = record {
  functions = functions;
  stage = stage;
  outs = outs;
  partitions = partitions;
}

-- ---- what is gathered of partition p of the output channel r, which each out has

-- these are the pairs; or, where the channel is lifted, accumulators were gathered that stand for
-- these
abbrev pub IsGathered : Option Comb → List MapOut → ℕ → ℕ → List Value → Type 0
IsGathered None outs r p pairs = (all_pairs outs r p ≡ Some pairs) × All IsPair pairs
IsGathered (Some c) outs r p pairs =
    IsSomeAnd (all_partials outs r p) (λ partials. StandFor c partials (pairs_of pairs))

-- how many groups are gathered
abbrev pub group_count : Option Comb → List MapOut → ℕ → ℕ → Option ℕ
group_count None outs r p = option_map (λ pairs. length (grouped pairs)) (all_pairs outs r p)
group_count (Some c) outs r p =
    option_map (λ partials. length (merged_by_key c partials)) (all_partials outs r p)

-- ---- the tasks of a stage

module _ {F : Type 0} where
  abbrev pub reducing_count : Reducing F → ℕ
  reducing_count r = length (groupings r.stage.outputs) * r.partitions

  -- task k is partition k % partitions of grouping channel k / partitions
  abbrev pub channel_at : Reducing F → ℕ → Option Grouping
  channel_at r k = slice_get (groupings r.stage.outputs) (k / r.partitions)

  -- it has a place for each group that is gathered; a number that is no task's has none
  abbrev pub reducing_places : Reducing F → ℕ → ℕ
  reducing_places r k =
      unwrap_or
      (option_and_then
      (λ g. group_count g.lifted r.outs (k / r.partitions) (k % r.partitions))
      (channel_at r k)) 0

-- ---- when the tasks can be made

-- the grouping channels stand before the others
abbrev pub AreGroupsFirst : List OutChannel → Type 0
AreGroupsFirst channels =
    (r : ℕ) (g : Grouping) → slice_get (groupings channels) r ≡ Some g
    → slice_get channels r ≡ Some (Group g)

-- what is gathered of a partition of the grouping channel are pairs, or stands for pairs, on whose
-- groups the steps of the reducer may be called
pub record IsReducible (w : World) (takes : ℕ → Value → Type 0) (outs : List MapOut) (r p : ℕ)
    (g : Grouping) : Type 0 where
  pub numbered : IsNumbered g.does
  pub lift : IsLiftOk g.lifted g.does
  pub pairs : List Value
  pub gathered : IsGathered g.lifted outs r p pairs
  pub safe : AllByRecursion (SafeOf w takes g.does) (grouped pairs)

-- the outs are those of the stage's map tasks: of each shard of each input channel there is one
pub record CanReduce {F : Type 0} (w : World) (takes : ℕ → Value → Type 0) (r : Reducing F)
    : Type 0 where
  pub shards : ℕ
  pub some : 0 < shards
  pub outs : length r.outs ≡ length r.stage.inputs * shards
  pub partitions : 0 < r.partitions
  pub few : reducing_count r < 2 ^ 32
  pub first : AreGroupsFirst r.stage.outputs
  pub ready : (i p : ℕ) (g : Grouping) → slice_get (groupings r.stage.outputs) i ≡ Some g
      → p < r.partitions → IsReducible w takes r.outs i p g

-- ---- what is right to give

-- the value of a reduce task: its out, or its first trap
abbrev pub IsReduceValue : World → Task → Result ReduceOut Trap → Type 0
IsReduceValue w task (Ok out) = IsReduceOut w task out.outputs out.counts out.groups
IsReduceValue w task (Err trap) = IsFirstTaskTrap w task trap

-- the reducer on the groups of pairs, beside no object
abbrev pub group_task : Grouping → List Value → Task
group_task g pairs = record { elements = grouped pairs; beside = None; does = g.does }

-- the value of the task of a partition of a grouping channel, in each world in which functions
-- answer so, whichever pairs what is gathered there stands for
abbrev pub IsReducedFrom : (ℕ → Value → Called) → List MapOut → ℕ → ℕ → Grouping
    → Result ReduceOut Trap → Type 0
IsReducedFrom called outs r p g out =
    (w : World) (pairs : List Value) → w.called ≡ called → IsGathered g.lifted outs r p pairs
    → IsReduceValue w (group_task g pairs) out

-- the value of task k
abbrev pub IsReducingValue : {F : Type 0} → (ℕ → Value → Called) → Reducing F → ℕ
    → Result ReduceOut Trap → Type 0
IsReducingValue called r k out =
    (g : Grouping) → channel_at r k ≡ Some g
    → IsReducedFrom called r.outs (k / r.partitions) (k % r.partitions) g out
