-- What the elements of a task come to.
use Rattle.std.proofs.Common.{◌≡◌, ◌<◌, ◌^◌, ℕ, List, [], ◌∷◌, Some, None, refl, sym, ap, ◌∙◌, subst}
use Rattle.std.specs.Prelude.{Ok, Err}
use Rattle.std.specs.List.{flat_map}
use Rattle.flume_value.specs.declared.value.Value.{Value}
use Rattle.flume_collection.specs.declared.trap.Trap.{Trap}
use Rattle.shards.proofs.Alike.{flat_map-itself, flat_map-nothing}
use Rattle.forest_steps.specs.of_exec_graph.Calls.{trapped}
use Rattle.forest_steps.specs.of_exec_graph.Forests.{Forest, next_after, numbered}
use Rattle.forest_steps.specs.of_exec_graph.World.{World}
use Rattle.task_lists.specs.Runs.{visits}
use Rattle.forest_steps.specs.Fresh.{none_given}
use Rattle.forest_steps.specs.Places.{outputs_in, sizes_in}
use Rattle.forest_steps.specs.Running.{Given, Run, run, run_each}
use Rattle.forest_courses.specs.Courses.{IsCourse}
use Rattle.forest_courses.proofs.Counting.{all_counted}
use Rattle.forest_courses.proofs.Trapping.{Traps, all_traps}
use Rattle.forest_courses.proofs.Pouring.{all_poured}
use Rattle.forest_courses.proofs.Numbering.{from_numbered, poured_whole}

module _ (w : World) where
  pub trapped_course : (sizes : List ℕ) (f : Forest) (xs : List Value) (given : Given)
      (trap : Trap) → run_each (run w sizes 0 f) xs given ≡ Err trap
      → IsCourse w (Some f) xs (Err trap)
  trapped_course sizes f xs given trap e =
      subst (Traps (flat_map (visits w (trapped w) f) xs)) e (all_traps w sizes 0 f xs given)

  pub made_course : (f : Forest) (xs : List Value) (given : Given) → numbered 0 f ≡ f
      → outputs_in f < 2 ^ 64
      → run_each (run w (sizes_in f) 0 f) xs (none_given (next_after 0 f) (outputs_in f)) ≡ Ok given
      → IsCourse w (Some f) xs (Ok given)
  made_course f xs given is few e =
      let start = none_given (next_after 0 f) (outputs_in f) in record {
        calm = subst (Traps (flat_map (visits w (trapped w) f) xs)) e
            (all_traps w (sizes_in f) 0 f xs start);
        lists = all_poured w (sizes_in f) 0 f xs start given e
            ∙ poured_whole w f xs (from_numbered 0 f is);
        counts = all_counted w (sizes_in f) f xs start given refl few refl e;
      }

  -- whichever way the steps on the elements end
  pub either_course : (f : Forest) (xs : List Value) (sizes : List ℕ) (start : Given)
      (end : Run) → numbered 0 f ≡ f → outputs_in f < 2 ^ 64 → sizes ≡ sizes_in f
      → start ≡ none_given (next_after 0 f) (outputs_in f)
      → run_each (run w sizes 0 f) xs start ≡ end → IsCourse w (Some f) xs end
  either_course f xs sizes start (Ok given) is few sized fresh e =
      made_course f xs given is few
      (sym (λ i. run_each (run w (sized i) 0 f) xs (fresh i)) ∙ e)
  either_course f xs sizes start (Err trap) is few sized fresh e =
      trapped_course sizes f xs start trap e

  pub whole_course : (xs : List Value) (given : Given) → given.lists ≡ xs ∷ []
      → given.counts ≡ [] → IsCourse w None xs (Ok given)
  whole_course xs given e none = record {
    calm = flat_map-nothing xs;
    lists = e ∙ ap (λ l. l ∷ []) (sym (flat_map-itself xs));
    counts = none;
  }
