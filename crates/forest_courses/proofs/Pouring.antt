-- The lists of the outputs, where no step traps.
use Rattle.std.proofs.Common.{◌≡◌, ℕ, List, [], ◌∷◌, length, Option, refl, subst}
use Rattle.std.specs.Prelude.{Ok, Err}
use Rattle.std.specs.List.{fold, slice_get}
use Rattle.flume_value.specs.declared.value.Value.{Value}
use Rattle.flume_collection.specs.Calls.{Called, emissions, or_none}
use Rattle.forest_steps.specs.of_exec_graph.Calls.{called, emitted}
use Rattle.forest_steps.specs.of_exec_graph.Forests.{Forest, Bare, Grow}
use Rattle.forest_steps.specs.of_exec_graph.World.{World}
use Rattle.forest_steps.specs.Running.{Given, OutputLists, Run, and_then, below, next_behind, counted_at, with_values_put, put_on_output, run, run_answer, run_each}

-- what the steps put behind the lists
abbrev pub poured : World → Forest → Value → OutputLists → OutputLists
poured w Bare x lists = lists
poured w (Grow l kids rest) x lists =
    poured w rest x
    (put_on_output l.out (emitted w l x)
    (fold (λ more y. poured w kids y more) lists (emitted w l x)))

abbrev pub poured_all : World → Forest → List Value → OutputLists → OutputLists
poured_all w f xs lists = fold (λ more y. poured w f y more) lists xs

-- a run that is not trapped leaves these lists
abbrev Leaves : OutputLists → Run → Type 0
Leaves lists (Ok left) = left.lists ≡ lists
Leaves lists (Err trap) = Unit {0}

leaves_then : (lists : OutputLists) (r : Run) (f : Given → Run) (g : OutputLists → OutputLists)
    → Leaves lists r
    → ((more : Given) → Leaves (g more.lists) (f more)) → Leaves (g lists) (and_then r f)
leaves_then lists (Ok left) f g h k =
    subst (λ l. Leaves (g l) (f left)) h (k left)
leaves_then lists (Err trap) f g h k = tt

leaves_each : (P : Value → OutputLists → OutputLists) (f : Value → Given → Run)
    → ((x : Value) (more : Given) → Leaves (P x more.lists) (f x more)) → (xs : List Value)
    (more : Given) → Leaves (fold (λ ls y. P y ls) more.lists xs) (run_each f xs more)
leaves_each P f h [] more = refl
leaves_each P f h (x ∷ xs) more =
    leaves_then (P x more.lists) (f x more) (run_each f xs)
    (λ ls. fold (λ ks y. P y ks) ls xs) (h x more) (λ given. leaves_each P f h xs given)

leaves_answer : (P : Value → OutputLists → OutputLists) (f : Value → Given → Run)
    → ((x : Value) (more : Given) → Leaves (P x more.lists) (f x more)) → (origin which : ℕ)
    (answer : Called) (out : Option ℕ) (at : ℕ) (more : Given)
    → Leaves (put_on_output out (emissions which answer)
    (fold (λ ls y. P y ls) more.lists (emissions which answer)))
    (run_answer origin which answer out at f more)
leaves_answer P f h origin which (Ok answers) out at more =
    let values = or_none (slice_get answers which) in
    leaves_then (fold (λ ls y. P y ls) more.lists values)
    (run_each f values (counted_at at (length values) more))
    (λ given. Ok (with_values_put out values given)) (put_on_output out values)
    (leaves_each P f h values (counted_at at (length values) more)) (λ given. refl)
leaves_answer P f h origin which (Err trap) out at more = tt

module _ (w : World) (sizes : List ℕ) where
  leaves_run : (at : ℕ) (f : Forest) (x : Value) (more : Given)
      → Leaves (poured w f x more.lists) (run w sizes at f x more)
  leaves_run at Bare x more = refl
  leaves_run at (Grow l kids rest) x more =
      leaves_then
      (put_on_output l.out (emitted w l x)
      (fold (λ ls y. poured w kids y ls) more.lists (emitted w l x)))
      (run_answer l.origin l.at (called w l.does x) l.out at (run w sizes (below at) kids) more)
      (run w sizes (next_behind sizes at) rest x) (poured w rest x)
      (leaves_answer (poured w kids) (run w sizes (below at) kids) (leaves_run (below at) kids)
      l.origin l.at (called w l.does x) l.out at more)
      (leaves_run (next_behind sizes at) rest x)

  pub all_poured : (at : ℕ) (f : Forest) (xs : List Value) (more left : Given)
      → run_each (run w sizes at f) xs more ≡ Ok left
      → left.lists ≡ poured_all w f xs more.lists
  all_poured at f xs more left e =
      subst (Leaves (poured_all w f xs more.lists)) e
      (leaves_each (poured w f) (run w sizes at f) (leaves_run at f) xs more)
