-- Accumulators, merged by key, in place of groups.
use Rattle.std.specs.Prelude.{◌≡◌, ℕ, List, None, Option, Result, map}
use Rattle.std.specs.List.{AllByRecursion}
use Rattle.flume_value.specs.declared.value.Value.{Value}
use Rattle.flume_collection.specs.declared.trap.Trap.{Trap}
use Rattle.flume_collection.specs.Calls.{Called}
use Rattle.combine_table.specs.declared.comb.Comb.{Comb}
use Rattle.partial_tables.specs.Tables.{Pairs}
use Rattle.exec_graph.specs.Calls.{called}
use Rattle.exec_graph.specs.Forests.{Forest}
use Rattle.exec_graph.specs.World.{World}
use Rattle.exec_graph.specs.declared.step.Does.TheVariants as does
use Rattle.forest_steps.specs.Safety.{Safe}
use Rattle.lifted_root.specs.Lifted.{partial_answer}
use Rattle.reduce_part.specs.Reducing.{IsReduceValue}
use Rattle.reduce_part.specs.declared.out.ReduceOut.{ReduceOut}

-- what a root that combines answers of the accumulators is what it answers of the groups
abbrev pub AnswerFor : World → Comb → Pairs → List Value → Type 0
AnswerFor w c merged groups =
    map (partial_answer c) merged ≡ map (called w (does.Combine c)) groups

-- they answer for groups on which the steps may be called
pub record CanRun (w : World) (takes : ℕ → Value → Type 0) (c : Comb) (f : Forest) (merged : Pairs)
    : Type 0 where
  pub groups : List Value
  pub answers : AnswerFor w c merged groups
  pub safe : AllByRecursion (Safe w takes f) groups

-- the value of the steps on these groups, in each world in which functions answer so
abbrev pub IsValueOf : (ℕ → Value → Called) → Option Forest → List Value → Result ReduceOut Trap
    → Type 0
IsValueOf called does groups out =
    (w : World) → w.called ≡ called
    → IsReduceValue w (record { elements = groups; beside = None; does = does }) out
