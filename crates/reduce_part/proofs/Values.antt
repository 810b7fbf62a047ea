-- What is right for a reduce task to give, in worlds in which functions answer alike.
use Rattle.std.proofs.Common.{◌≡◌, ℕ, List, map, Option, None, sym, ap, ◌∙◌}
use Rattle.std.specs.Prelude.{Result, Ok, Err, slice_get}
use Rattle.flume_value.specs.declared.value.Value.{Value}
use Rattle.flume_collection.specs.declared.trap.Trap.{Trap}
use Rattle.flume_collection.specs.Calls.{Called}
use Rattle.exec_graph.specs.Forests.{Forest}
use Rattle.exec_graph.specs.World.{World}
use Rattle.lifted_root.specs.of_task_lists.Runs.{kept_count}
use Rattle.task_safety.proofs.of_forest_courses.Worlds.{same_counts, same_given, same_traps}
use Rattle.forest_steps.specs.Functions.{world_of}
use Rattle.reduce_part.specs.Reducing.{IsReduceValue}
use Rattle.reduce_part.specs.inner.Merged.{IsValueOf}
use Rattle.reduce_part.specs.declared.out.ReduceOut.{ReduceOut}

module _ (v w : World) (same : v.called ≡ w.called) (does : Option Forest) (xs : List Value) where
  same_value : (out : Result ReduceOut Trap)
      → IsReduceValue v (record { elements = xs; beside = None; does = does }) out
      → IsReduceValue w (record { elements = xs; beside = None; does = does }) out
  same_value (Ok out) is = record {
    calm = sym (same_traps v w same does xs) ∙ is.calm;
    outputs = is.outputs ∙ same_given v w same does xs;
    counts = is.counts ∙ ap (map kept_count) (same_counts v w same does xs);
    groups = is.groups;
  }
  same_value (Err trap) is =
      ap (λ (ts : List Trap). slice_get ts 0) (sym (same_traps v w same does xs)) ∙ is

pub value_anywhere : (called : ℕ → Value → Called) (does : Option Forest) (xs : List Value)
    (out : Result ReduceOut Trap)
    → IsReduceValue (world_of called) (record { elements = xs; beside = None; does = does }) out
    → IsValueOf called does xs out
value_anywhere called does xs out is w alike =
    same_value (world_of called) w (sym alike) does xs out is
