-- The list of each collection, by the lists of the sources and of the results of stages.
use Rattle.std.specs.Prelude.{ℕ, ◌-◌, ◌==◌, cond, List, [], Option, Some, None, slice_get}
use Rattle.flume_value.specs.declared.value.Value.{Value}
use Rattle.flume_collection.specs.Calls.{or_none}
use Rattle.exec_plan.specs.declared.plan.PlanPlace.TheVariants as at
use Rattle.task_safety.specs.of_task_lists.Tasks.{Lists, Split}

abbrev pub results_or_none : Option (List (List Value)) → List (List Value)
results_or_none None = []
results_or_none (Some lists) = lists

-- a collection that has no list here has no elements
abbrev pub table : List (List Value) → List (List (List Value)) → Lists
table sources results (at.Source n) = or_none (slice_get sources n)
table sources results (at.Result stage number) =
    cond (stage == 0) []
    (or_none (slice_get (results_or_none (slice_get results (stage - 1))) number))

abbrev pub split_into : ℕ → ℕ → Split
split_into shards partitions = record { shards = shards; partitions = partitions }
