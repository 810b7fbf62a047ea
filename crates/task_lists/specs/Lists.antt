-- The list of each collection of a plan, in which shards and partitions stand one after another.
use Rattle.std.specs.Prelude.{ℕ, cond, ◌==◌, List, [], ◌∷◌, map}
use Rattle.std.proofs.Common.{suc}
use Rattle.std.specs.List.{flat_map, slice_get}
use Rattle.flume_value.specs.declared.value.Value.{Value}
use Rattle.flume_value.specs.Bag.{bag_of}
use Rattle.flume_collection.specs.Calls.{or_none}
use Rattle.flume_collection.specs.Collection.{Collection}
use Rattle.shards.specs.Shards.{concatenated}
use Rattle.exec_plan.specs.of_exec_graph.Objects.{act_result}
use Rattle.exec_plan.specs.of_exec_graph.World.{World}
use Rattle.exec_plan.specs.of_exec_graph.declared.graph.Act.{Act}
use Rattle.exec_plan.specs.Channels.{output_numbers_of}
use Rattle.exec_plan.specs.declared.plan.PlanPlace.{PlanPlace}
use Rattle.exec_plan.specs.declared.plan.PlanPlace.TheVariants as at
use Rattle.exec_plan.specs.declared.plan.InChannel.{InChannel}
use Rattle.exec_plan.specs.declared.plan.Grouping.{Grouping}
use Rattle.exec_plan.specs.declared.plan.OutChannel.{OutChannel}
use Rattle.exec_plan.specs.declared.plan.OutChannel.TheVariants.{Group, Pass}
use Rattle.exec_plan.specs.declared.plan.Stage.{Stage}
use Rattle.exec_plan.specs.declared.plan.Stage.TheVariants.{Mscr, Flatten, Operate}
use Rattle.exec_plan.specs.declared.plan.Plan.{Plan}
use Rattle.task_lists.specs.Tasks.{Split, Lists, task_gives, gathered, reduce_task}

-- output j of a reducer: the emissions of the partitions, in order
abbrev pub reduced_lists : World → Split → Lists → List InChannel → Grouping → ℕ → List Value
reduced_lists w n t ins g j =
    concatenated (λ p. task_gives w (reduce_task w n t ins g p) j) n.partitions

-- the results of a channel, in order
abbrev pub given_lists : World → Split → Lists → List InChannel → OutChannel → List (List Value)
given_lists w n t ins (Group g) = map (reduced_lists w n t ins g) (output_numbers_of g.does)
given_lists w n t ins (Pass k number) = gathered w n t ins (k ∷ []) ∷ []

-- the collection of that list, behind which no trap is
abbrev pub calm_list : Lists → PlanPlace → Collection
calm_list t c = record { bag = bag_of (t c); traps = [] }

-- the object that a stage makes of these collections by an act, for script node o. It has no value
-- where the act traps, or where an object that it reads has an empty list
abbrev pub object_made : World → Lists → ℕ → Act → List PlanPlace → Collection
object_made w t o a takes = act_result w o a (map (calm_list t) takes)

-- the results of a stage, in order. That of an Operate is its one value, or it is empty
abbrev pub result_lists : World → Split → Lists → Stage → List (List Value)
result_lists w n t (Mscr s) = flat_map (given_lists w n t s.inputs) s.outputs
result_lists w n t (Flatten takes) = flat_map t takes ∷ []
result_lists w n t (Operate takes o l a) = (object_made w t o a takes).bag ∷ []

-- the lists with those of the results of stage k
abbrev pub with_lists : ℕ → List (List Value) → Lists → Lists
with_lists k ls t (at.Source r) = t (at.Source r)
with_lists k ls t (at.Result stage number) =
    cond (stage == k) (or_none (slice_get ls number)) (t (at.Result stage number))

-- after the stages from number k on, one after another
abbrev pub run_lists : World → Split → ℕ → List Stage → Lists → Lists
run_lists w n k [] t = t
run_lists w n k (s ∷ ss) t =
    run_lists w n (suc k) ss (with_lists k (result_lists w n t s) t)

-- before all stages: the rows of the sources
abbrev pub source_lists : World → Lists
source_lists w (at.Source r) = w.rows r
source_lists w (at.Result stage number) = []

-- the list of each collection of a plan
abbrev pub lists : World → Split → Plan → Lists
lists w n p = run_lists w n 1 p.stages (source_lists w)
