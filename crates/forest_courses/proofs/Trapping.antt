-- The first trap of steps one after another.
use Rattle.std.proofs.Common.{◌≡◌, ℕ, List, [], ◌∷◌, ◌++◌, length, append_assoc, Option, Some, refl, sym, ap, subst}
use Rattle.std.specs.Prelude.{Ok, Err}
use Rattle.std.specs.List.{flat_map, slice_get}
use Rattle.flume_value.specs.declared.value.Value.{Value}
use Rattle.flume_collection.specs.declared.trap.Trap.{Trap}
use Rattle.flume_collection.specs.Calls.{Called, emissions, or_none, trap_of}
use Rattle.forest_steps.specs.of_exec_graph.Calls.{called, emitted, trapped}
use Rattle.forest_steps.specs.of_exec_graph.Forests.{Forest, Bare, Grow}
use Rattle.forest_steps.specs.of_exec_graph.World.{World}
use Rattle.task_lists.specs.Runs.{visits}
use Rattle.forest_steps.specs.Running.{Given, Run, and_then, below, next_behind, counted_at, with_values_put, run, run_answer, run_each}

-- nothing traps where the run ends with lists, and else the first trap ended it
abbrev pub Traps : List Trap → Run → Type 0
Traps traps (Ok lists) = traps ≡ []
Traps traps (Err e) = slice_get traps 0 ≡ Some e

first_ahead : (xs ys : List Trap) (e : Trap) → slice_get xs 0 ≡ Some e
    → slice_get (xs ++ ys) 0 ≡ Some e
first_ahead [] ys e h = cc h
first_ahead (x ∷ xs) ys e h = h

traps_then : (xs ys : List Trap) (r : Run) (f : Given → Run) → Traps xs r
    → ((lists : Given) → Traps ys (f lists)) → Traps (xs ++ ys) (and_then r f)
traps_then xs ys (Ok lists) f h k =
    subst (λ ts. Traps ts (f lists)) (sym (ap (λ l. l ++ ys) h)) (k lists)
traps_then xs ys (Err e) f h k = first_ahead xs ys e h

-- nothing more traps where lists are put together
traps_kept : (xs : List Trap) (r : Run) (g : Given → Given) → Traps xs r
    → Traps xs (and_then r (λ lists. Ok (g lists)))
traps_kept xs (Ok lists) g h = h
traps_kept xs (Err e) g h = h

pub traps_each : (V : Value → List Trap) (f : Value → Given → Run)
    → ((x : Value) (lists : Given) → Traps (V x) (f x lists))
    → (xs : List Value) (lists : Given) → Traps (flat_map V xs) (run_each f xs lists)
traps_each V f h [] lists = refl
traps_each V f h (x ∷ xs) lists =
    traps_then (V x) (flat_map V xs) (f x lists) (run_each f xs) (h x lists)
    (λ more. traps_each V f h xs more)

answer_traps : (V : Value → List Trap) (f : Value → Given → Run)
    → ((x : Value) (lists : Given) → Traps (V x) (f x lists))
    → (origin which : ℕ) (answer : Called) (out : Option ℕ) (at : ℕ) (lists : Given)
    → Traps (trap_of origin answer ++ flat_map V (emissions which answer))
    (run_answer origin which answer out at f lists)
answer_traps V f h origin which (Ok answers) out at lists =
    let values = or_none (slice_get answers which) in
    traps_kept (flat_map V values) (run_each f values (counted_at at (length values) lists))
    (with_values_put out values) (traps_each V f h values (counted_at at (length values) lists))
answer_traps V f h origin which (Err trap) out at lists = refl

module _ (w : World) (sizes : List ℕ) where
  run_traps : (at : ℕ) (f : Forest) (x : Value) (lists : Given)
      → Traps (visits w (trapped w) f x) (run w sizes at f x lists)
  run_traps at Bare x lists = refl
  run_traps at (Grow l kids rest) x lists =
      let own = trapped w l x in
      let on = flat_map (visits w (trapped w) kids) (emitted w l x) in
      let beside = visits w (trapped w) rest x in
      let more = run w sizes (next_behind sizes at) rest x in
      let r = run_answer l.origin l.at (called w l.does x) l.out at (run w sizes (below at) kids)
      lists in
      subst (λ ts. Traps ts (and_then r more)) (append_assoc own on beside)
      (traps_then (own ++ on) beside r more
      (answer_traps (visits w (trapped w) kids) (run w sizes (below at) kids)
      (run_traps (below at) kids) l.origin l.at (called w l.does x) l.out at lists)
      (run_traps (next_behind sizes at) rest x))

  pub all_traps : (at : ℕ) (f : Forest) (xs : List Value) (lists : Given)
      → Traps (flat_map (visits w (trapped w) f) xs) (run_each (run w sizes at f) xs lists)
  all_traps at f xs lists =
      traps_each (visits w (trapped w) f) (run w sizes at f) (run_traps at f) xs lists
