-- The six kinds of step of a board's table: each keeps the rule, and the first four are the
-- protocol's.
use Rattle.std.specs.Prelude.{◌≡◌, ◌≢◌, ℕ, ◌+◌, ◌<◌, false, List, ◌∷◌, slice_index, slice_set}
use mathlib.Core.Option.{some}
use lib.ListN.{get_elem?}
use Rattle.atomic_table.specs.Table.{Splits, Joins, State as TableState}
use Rattle.claim_board.specs.declared.size.Size.{Size}
use Rattle.claim_board.specs.Protocol.{PassState, pass_begun, steps_of, drawn, looked, winning, losing, task_of, attempt_of, IsOpen, Event, Draw, Look, Win, Lose, Step}
use Rattle.claim_board.specs.Seats.{View, limit_at, maker_view, pass_view, spent_view, all_passes, state_of, Rule}

-- a state of the table
abbrev pub BoardTable : Type 0
BoardTable = TableState (Unit {0}) View

-- the place of the next step
abbrev pub next_place : BoardTable → ℕ
next_place s = steps_of (all_passes s.views)

-- the seat `id`, of the pass p, steps: the words become ws, and p becomes q. That keeps the rule,
-- and is the protocol's step
abbrev pub StepsTo : Size → BoardTable → ℕ → PassState → List ℕ → PassState → (ℕ → Event) → Type 0
StepsTo k s id p ws q e =
    Rule k record { words = ws; homes = s.homes; views = slice_set s.views id (pass_view k q) }
    × ((j : ℕ) × (get_elem? (all_passes s.views) j ≡ some p)
    × Step k.tasks k.tries (state_of s.words s.views) (e j)
    (state_of ws (slice_set s.views id (pass_view k q))))

-- whatever the table is, where the pass may step: the words and the pass after it, and the event
abbrev pub Moves : (Size → BoardTable → PassState → Type 0)
    → (Size → BoardTable → PassState → List ℕ) → (Size → BoardTable → PassState → PassState)
    → (ℕ → Event) → Type 0
Moves may words after e =
    (k : Size) (s : BoardTable) (id : ℕ) (p : PassState) → Rule k s
    → get_elem? s.views id ≡ some (pass_view k p) → may k s p
    → StepsTo k s id p (words k s p) (after k s p) e

-- word 0 is read and rises by 1
abbrev pub DrawSteps : Type 0
DrawSteps =
    Moves (λ k s p. p.ended ≡ false)
    (λ k s p. slice_set s.words 0 (slice_index s.words 0 + 1))
    (λ k s p. drawn (limit_at k) p (next_place s) (slice_index s.words 0))
    (λ j. Draw j)

-- the word of a task is read
abbrev pub LookSteps : Type 0
LookSteps =
    (t : ℕ) → Moves (λ k s p. t < k.tasks)
    (λ k s p. s.words)
    (λ k s p. looked p (next_place s) t (slice_index s.words (t + 1)))
    (λ j. Look j t)

-- the word of a draw's task, which is 0, becomes the draw's attempt
abbrev pub WinSteps : Type 0
WinSteps =
    (d : ℕ) → Moves
    (λ k s p. IsOpen k.tasks k.tries p d × (slice_index s.words (task_of k.tasks d + 1) ≡ 0))
    (λ k s p. slice_set s.words (task_of k.tasks d + 1) (attempt_of k.tasks d))
    (λ k s p. winning p (next_place s) d)
    (λ j. Win j d)

-- the word of a draw's task is not 0, and stays
abbrev pub LoseSteps : Type 0
LoseSteps =
    (d : ℕ) → Moves
    (λ k s p. IsOpen k.tasks k.tries p d × (slice_index s.words (task_of k.tasks d + 1) ≢ 0))
    (λ k s p. s.words)
    (λ k s p. losing p (next_place s) d (slice_index s.words (task_of k.tasks d + 1)))
    (λ j. Lose j d)

-- a pass is made with the number of those made before, and has done nothing
abbrev pub MakeSteps : Type 0
MakeSteps =
    (k : Size) (n : ℕ) (ps : List PassState) → n < k.crew
    → Splits (Rule k) 0 (maker_view k n ps) (maker_view k (n + 1) ps) (pass_view k (pass_begun n))

-- the maker takes a pass over, under its number, and leaves a spent view
abbrev pub JoinSteps : Type 0
JoinSteps =
    (k : Size) (n : ℕ) (ps : List PassState) (other : ℕ) (p : PassState)
    → Joins (Rule k) 0 (maker_view k n ps) other (pass_view k p) (maker_view k n (p ∷ ps))
    spent_view
