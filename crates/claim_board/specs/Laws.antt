-- What holds along every list of events.
use Rattle.std.specs.Prelude.{◌≡◌, ◌≢◌, ℕ, ◌+◌, ◌*◌, ◌<◌, ◌≤◌, true, eqb, List, [], ◌∷◌, sum_by}
use mathlib.Core.Option.{some}
use lib.ListN.{get_elem?}
use Rattle.claim_board.specs.Counts.{times_in_list, times_first, one_if}
use Rattle.claim_board.specs.Protocol.{PassState, BoardState, word_of_task, Event, Draw, Look, Win, Lose, start, Runs, task_of, limit, IsGood}

-- every list of events leads from the start to a good state
abbrev pub EveryStateIsGood : Type 0
EveryStateIsGood =
    (tasks tries crew : ℕ) (events : List Event) (s : BoardState) → 0 < tasks
    → Runs tasks tries (start tasks crew) events s → IsGood tasks tries s

-- a word that is not 0 never changes
abbrev pub WordsStay : Type 0
WordsStay =
    (tasks tries : ℕ) (events : List Event) (old new : BoardState) (t : ℕ)
    → Runs tasks tries old events new → word_of_task old t ≢ 0
    → word_of_task new t ≡ word_of_task old t

-- how often the events win the task
abbrev pub wins : ℕ → ℕ → List Event → ℕ
wins tasks t [] = 0
wins tasks t (Win i d ∷ es) = one_if (eqb (task_of tasks d) t) + wins tasks t es
wins tasks t (Draw i ∷ es) = wins tasks t es
wins tasks t (Look i u ∷ es) = wins tasks t es
wins tasks t (Lose i d ∷ es) = wins tasks t es

-- each task is won at most once
abbrev pub EachTaskIsWonOnce : Type 0
EachTaskIsWonOnce =
    (tasks tries crew : ℕ) (events : List Event) (s : BoardState) (t : ℕ) → 0 < tasks
    → Runs tasks tries (start tasks crew) events s → wins tasks t events ≤ 1

-- where a pass has ended, and the word of a task is 0, each attempt of the task was drawn,
-- and none was won or lost
abbrev pub UndecidedWereDrawn : Type 0
UndecidedWereDrawn =
    (tasks tries : ℕ) (s : BoardState) (i : ℕ) (p : PassState) (t k : ℕ) → IsGood tasks tries s
    → get_elem? s.passes i ≡ some p → p.ended ≡ true
    → t < tasks → word_of_task s t ≡ 0 → k < tries
    → (sum_by (λ q. times_in_list (k * tasks + t) q.draws) s.passes ≡ 1)
    × (sum_by (λ q. times_in_list (k * tasks + t) q.won) s.passes ≡ 0)
    × (sum_by (λ q. times_first (k * tasks + t) q.lost) s.passes ≡ 0)

-- where a pass has ended, there were more draws than attempts
abbrev pub EndedMeansUsedUp : Type 0
EndedMeansUsedUp =
    (tasks tries : ℕ) (s : BoardState) (i : ℕ) (p : PassState) → IsGood tasks tries s
    → get_elem? s.passes i ≡ some p → p.ended ≡ true → limit tasks tries < s.next

-- a word is 0 or one of the tries
abbrev pub WordsAreTries : Type 0
WordsAreTries =
    (tasks tries : ℕ) (s : BoardState) (t : ℕ) → IsGood tasks tries s → t < tasks
    → word_of_task s t ≤ tries
