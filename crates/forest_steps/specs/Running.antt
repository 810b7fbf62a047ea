-- The steps of a forest, one after another, and what its outputs are given.
use Rattle.std.specs.Prelude.{◌≡◌, ℕ, ◌+◌, ◌-◌, ◌^◌, min, List, [], ◌∷◌, ◌++◌, Option, Some, None, Result, Ok, Err, drop, length, slice_get, slice_set, unwrap_or, refl}
use Rattle.std.specs.List.{AllByRecursion}
use Rattle.std.specs.Coded.{Coded, code_by, coded×, coded_ℕ, coded_list}
use Rattle.flume_value.specs.declared.value.Value.{Value}
use Rattle.flume_value.specs.contracts.value.Value as values
use Rattle.flume_collection.specs.declared.trap.Trap.{Trap}
use Rattle.flume_collection.specs.Calls.{Called, or_none, trap_named}
use Rattle.exec_graph.specs.Calls.{called}
use Rattle.exec_graph.specs.Forests.{Forest, Bare, Grow, Twig}
use Rattle.exec_graph.specs.World.{World}
use Rattle.forest_steps.specs.Safety.{Safe}
use Rattle.forest_steps.specs.declared.fault.StepFault.{StepFault}
use Rattle.forest_steps.specs.declared.fault.StepFault.TheVariants as fault

abbrev pub OutputLists : Type 0
OutputLists = List (List Value)

-- what each output that is kept has got so far, by its number, and how many elements each output of
-- each step has emitted, by its place in preorder
pub record Given : Type 0 where
  pub lists : OutputLists
  pub counts : List ℕ

abbrev pub given_code : Coded Given
given_code =
    code_by (OutputLists × List ℕ)
    (coded× (coded_list (coded_list values.the_row.coded)) (coded_list coded_ℕ))
    (λ g. (g.lists, g.counts))
    (λ p. record { lists = p.0; counts = p.1 })
    (λ _. refl)

-- values go behind the list of an output that is kept
abbrev pub put_on_output : Option ℕ → List Value → OutputLists → OutputLists
put_on_output None values lists = lists
put_on_output (Some j) values lists = slice_set lists j (or_none (slice_get lists j) ++ values)

abbrev pub with_values_put : Option ℕ → List Value → Given → Given
with_values_put out values g =
    record { lists = put_on_output out values g.lists; counts = g.counts }

-- the count at a place is n more
abbrev pub raised_at : ℕ → ℕ → List ℕ → List ℕ
raised_at at n counts =
    slice_set counts at (min (unwrap_or (slice_get counts at) 0 + n) (2 ^ 64 - 1))

abbrev pub counted_at : ℕ → ℕ → Given → Given
counted_at at n g = record { lists = g.lists; counts = raised_at at n g.counts }

-- ---- places of outputs in preorder, where the table says at the place of an output how many there
-- are of it and of all on it

abbrev pub bounded_place : ℕ → ℕ
bounded_place n = min n (2 ^ 64 - 1)

-- the first on an output
abbrev pub below : ℕ → ℕ
below at = bounded_place (at + 1)

-- the first behind an output
abbrev pub next_behind : List ℕ → ℕ → ℕ
next_behind sizes at = bounded_place (at + unwrap_or (slice_get sizes at) 0)

abbrev pub behind_all : List ℕ → ℕ → List Twig → ℕ
behind_all sizes at [] = at
behind_all sizes at (t ∷ ts) = behind_all sizes (next_behind sizes at) ts

-- ---- steps

-- what is given after some steps, or the trap that ended them
abbrev pub Run : Type 0
Run = Result Given Trap

abbrev pub and_then : Run → (Given → Run) → Run
and_then (Ok g) f = f g
and_then (Err trap) f = Err trap

-- steps on each, in order
abbrev pub run_each : {X : Type 0} → (X → Given → Run) → List X → Given → Run
run_each f [] g = Ok g
run_each f (x ∷ xs) g = and_then (f x g) (run_each f xs)

-- what is emitted to an output is counted, each emission in order goes to the steps on it, and then
-- all go behind the output's list
abbrev pub run_out : Option ℕ → ℕ → (Value → Given → Run) → List Value → Given → Run
run_out out at kids values g =
    and_then (run_each kids values (counted_at at (length values) g))
    (λ more. Ok (with_values_put out values more))

-- what a step of a script node answers, to its output `which`
abbrev pub run_answer : ℕ → ℕ → Called → Option ℕ → ℕ → (Value → Given → Run) → Given → Run
run_answer origin which (Ok answers) out at kids g =
    run_out out at kids (or_none (slice_get answers which)) g
run_answer origin which (Err trap) out at kids g = Err (trap_named origin trap)

module _ (w : World) (sizes : List ℕ) where
  -- the steps of a forest on an element, each root in order
  abbrev pub run : ℕ → Forest → Value → Given → Run
  run at Bare x g = Ok g
  run at (Grow l kids rest) x g =
      and_then
      (run_answer l.origin l.at (called w l.does x) l.out at (run (below at) kids) g)
      (run (next_behind sizes at) rest x)

  -- what a step answered, to its outputs in order
  abbrev pub run_twigs : ℕ → List (List Value) → List Twig → Given → Run
  run_twigs at answers [] g = Ok g
  run_twigs at answers (t ∷ ts) g =
      and_then
      (run_out t.out at (run (below at) t.kids) (or_none (slice_get answers 0)) g)
      (run_twigs (next_behind sizes at) (drop 1 answers) ts)

-- the steps on the outputs of a step may be called on what it answered
abbrev pub SafeTwigs : World → (ℕ → Value → Type 0) → List (List Value) → List Twig → Type 0
SafeTwigs w takes answers [] = Unit {0}
SafeTwigs w takes answers (t ∷ ts) =
    AllByRecursion (Safe w takes t.kids) (or_none (slice_get answers 0))
    × SafeTwigs w takes (drop 1 answers) ts

-- a fault is the trap that ended the steps; want of memory comes at any time
abbrev pub IsStepsFault : Run → StepFault → Type 0
IsStepsFault meant (fault.Trap e) = meant ≡ Err e
IsStepsFault meant fault.Memory = Unit {0}

-- steps have given this, or were ended by a trap or by want of memory
abbrev pub IsRun : {T : Type 0} → Run → Given → Result T StepFault → Type 0
IsRun meant g (Ok t) = meant ≡ Ok g
IsRun meant g (Err e) = IsStepsFault meant e
