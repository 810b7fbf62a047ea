-- The collections that stages read.
use Rattle.std.specs.Prelude.{◌≡◌, List, ◌++◌, length, map}
use Rattle.std.specs.List.{flat_map}
use Rattle.exec_plan.specs.Meaning.{stage_reads}
use Rattle.exec_plan.specs.declared.plan.PlanPlace.{PlanPlace}
use Rattle.exec_plan.specs.declared.plan.Stage.{Stage}
use Rattle.flume_types.specs.Typing.{AllHave}
use Rattle.flume_types.specs.declared.types.Ty.{Ty}
use Rattle.flume_value.specs.declared.value.Value.{Value}
use Rattle.stage_results.specs.of_map_shard.Tables.{table}
use Rattle.task_lists.specs.Tasks.{Lists}

-- two tables have the same list of each of these
abbrev pub AgreeOn : List PlanPlace → Lists → Lists → Type 0
AgreeOn places t u = map t places ≡ map u places

-- what stages read, objects among it, and what is an output
abbrev pub later_reads : List Stage → List PlanPlace → List PlanPlace
later_reads stages outputs = flat_map stage_reads stages ++ outputs

-- Of the lists of sources and of results some were dropped: what stages read later and what is an
-- output has the list that it had, what has a type keeps it, and there are as many results.
pub record KeepsLater (later : List Stage) (outputs : List PlanPlace)
    (sources : List (List Value)) (results : List (List (List Value)))
    (left : List (List Value)) (fewer : List (List (List Value))) : Type 0 where
  pub others : AgreeOn (later_reads later outputs) (table left fewer) (table sources results)
  pub typed : (type : Ty) (q : PlanPlace) → AllHave type (table sources results q) →
      AllHave type (table left fewer q)
  pub count : length fewer ≡ length results
