-- What the elements of a task come to.
use Rattle.std.specs.Prelude.{◌≡◌, List, [], map, Option, Some, Result, Ok, Err, slice_get}
use Rattle.flume_value.specs.declared.value.Value.{Value}
use Rattle.flume_collection.specs.declared.trap.Trap.{Trap}
use Rattle.forest_steps.specs.of_exec_graph.Forests.{Forest}
use Rattle.forest_steps.specs.of_exec_graph.World.{World}
use Rattle.task_lists.specs.Runs.{all_emissions, counts_of, kept_count, traps_in_order}
use Rattle.forest_steps.specs.Running.{Given}

-- nothing traps; what each output that is kept is given, and how many elements each output of each
-- step
-- emits
pub record IsUntrapped (w : World) (does : Option Forest) (xs : List Value) (given : Given)
    : Type 0 where
  pub calm : traps_in_order w does xs ≡ []
  pub lists : given.lists ≡ all_emissions w does xs
  pub counts : given.counts ≡ map kept_count (counts_of w does xs)

-- what the outputs are given, or the first trap
abbrev pub IsCourse : World → Option Forest → List Value → Result Given Trap → Type 0
IsCourse w does xs (Ok given) = IsUntrapped w does xs given
IsCourse w does xs (Err trap) = slice_get (traps_in_order w does xs) 0 ≡ Some trap
