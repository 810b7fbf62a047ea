-- The map tasks of a stage: what they read, when they can be made, and what is right for them to
-- give.
use Rattle.std.specs.Prelude.{◌≡◌, ℕ, ◌<◌, ◌*◌, ◌/◌, ◌%◌, ◌^◌, List, length, Result, refl}
use Rattle.std.specs.List.{AllByRecursion}
use Rattle.std.specs.Coded.{Coded, code_by, coded×, coded_ℕ, coded_list}
use Rattle.flume_value.specs.declared.value.Value.{Value}
use Rattle.flume_value.specs.contracts.value.Value as values
use Rattle.flume_collection.specs.declared.trap.Trap.{Trap}
use Rattle.flume_collection.specs.Calls.{Called}
use Rattle.shuffle_parts.specs.declared.out.MapOut.{MapOut}
use Rattle.exec_graph.specs.World.{World}
use Rattle.exec_plan.specs.Wellformed.{Exists, IsNumbered}
use Rattle.exec_plan.specs.declared.plan.InChannel.{InChannel}
use Rattle.exec_plan.specs.declared.plan.OutChannel.{OutChannel}
use Rattle.exec_plan.specs.declared.plan.OutChannel.TheVariants.{Group, Pass}
use Rattle.exec_plan.specs.declared.plan.Mscr.{Mscr}
use Rattle.exec_plan.specs.declared.plan.Take.{Take}
use Rattle.exec_plan.specs.contracts.plan.Mscr as stages
use Rattle.task_safety.specs.of_task_lists.Outs.{IsMapValue}
use Rattle.task_safety.specs.of_task_lists.Tasks.{Lists, Split, Task, given_to, map_count, map_task_of, asks_of, world_for}
use Rattle.task_safety.specs.of_task_lists.Typing.{AreGroupable}
use Rattle.task_safety.specs.Taking.{taking}
use Rattle.forest_steps.specs.Safety.{SafeOf}
use Rattle.map_shard.specs.Tables.{split_into, table}

-- functions, the lists of the sources and of the results of earlier stages, a stage, and into how
-- many shards and partitions its channels are split
pub record Work (F : Type 0) : Type 0 where
  pub functions : F
  pub sources : List (List Value)
  pub results : List (List (List Value))
  pub stage : Mscr
  pub shards : ℕ
  pub partitions : ℕ

abbrev pub work_code : {F : Type 0} → Coded F → Coded (Work F)
work_code {F} code =
    code_by
    (F × (List (List Value) × (List (List (List Value)) × (Mscr × (ℕ × ℕ)))))
    (coded× code
    (coded× (coded_list (coded_list values.the_row.coded))
    (coded× (coded_list (coded_list (coded_list values.the_row.coded)))
    (coded× stages.the_row.coded (coded× coded_ℕ coded_ℕ)))))
    (λ w. (w.functions, (w.sources, (w.results, (w.stage, (w.shards, w.partitions))))))
    (λ p. record {
      functions = p.0;
      sources = p.1.0;
      results = p.1.1.0;
      stage = p.1.1.1.0;
      shards = p.1.1.1.1.0;
      partitions = p.1.1.1.1.1;
    })
    (λ _. refl)

abbrev pub work_of : {F : Type 0} → F → List (List Value) → List (List (List Value)) → Mscr → ℕ
    → ℕ → Work F
work_of functions sources results stage shards partitions = record {
  functions = functions;
  sources = sources;
  results = results;
  stage = stage;
  shards = shards;
  partitions = partitions;
}

module _ {F : Type 0} where
  abbrev pub work_split : Work F → Split
  work_split w = split_into w.shards w.partitions

  abbrev pub work_lists : Work F → Lists
  work_lists w = table w.sources w.results

  -- shard i of input channel m
  abbrev pub shard_task : Work F → ℕ → ℕ → Task
  shard_task w m i = map_task_of (work_split w) (work_lists w) w.stage.inputs m i

  abbrev pub work_count : Work F → ℕ
  work_count w = map_count (work_split w) w.stage

  -- task k is shard k % shards of input channel k / shards
  abbrev pub task_at : Work F → ℕ → Task
  task_at w k = shard_task w (k / w.shards) (k % w.shards)

  abbrev pub work_places : Work F → ℕ → ℕ
  work_places w k = asks_of (task_at w k)

-- ---- when the tasks can be made

-- what an output channel takes is there, and fit for it, where `given` says what it is given
abbrev pub IsFit : List InChannel → (List Take → List Value) → OutChannel → Type 0
IsFit ins given (Pass k number) = Exists ins k
IsFit ins given (Group g) =
    AllByRecursion (Exists ins) g.takes × AreGroupable g.lifted (given g.takes)

-- the steps of shard i of input channel m may be called on its elements, beside the value of its
-- object where there is one, and what they give is fit for the output channels
pub record CanRunShard {F : Type 0} (w : World) (takes : ℕ → Value → Type 0) (work : Work F)
    (m i : ℕ)
    : Type 0 where
  pub safe : AllByRecursion (SafeOf (world_for w (shard_task work m i))
      (taking (shard_task work m i).beside takes) (shard_task work m i).does)
      (shard_task work m i).elements
  pub fit : AllByRecursion
      (IsFit work.stage.inputs (given_to w (shard_task work m i) m)) work.stage.outputs

pub record CanWork {F : Type 0} (w : World) (takes : ℕ → Value → Type 0) (work : Work F)
    : Type 0 where
  pub shards : 0 < work.shards
  pub partitions : 0 < work.partitions
  pub few : length work.stage.inputs * work.shards < 2 ^ 32
  pub steps : AllByRecursion (λ c. IsNumbered c.does) work.stage.inputs
  pub ready : (m i : ℕ) → m < length work.stage.inputs → i < work.shards
      → CanRunShard w takes work m i

-- ---- what is right to give

-- the value of task k, in each world in which functions answer so
abbrev pub IsWorkValue : {F : Type 0} → (ℕ → Value → Called) → Work F → ℕ
    → Result MapOut Trap → Type 0
IsWorkValue called work k out =
    (w : World) → w.called ≡ called
    → IsMapValue w (work_split work) (work_lists work) work.stage (k / work.shards)
    (k % work.shards)
    out
