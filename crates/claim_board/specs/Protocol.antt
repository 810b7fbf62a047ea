-- The claim protocol, as a state machine.
-- Draws have the numbers 0, 1, 2 and on. The draw d names the attempt d / tasks + 1 of the task
-- d % tasks, and the draws below tasks * tries name each attempt of each task once.
-- A task has a word: 0, or the attempt that won it.
use Rattle.std.specs.Prelude.{◌≡◌, ◌≢◌, ℕ, zero, suc, ◌+◌, ◌*◌, ◌/◌, ◌%◌, ◌<◌, ◌≤◌, Bool, false, eqb, leb, ◌⊎◌, List, [], ◌∷◌, ◌++◌, length, slice_index, slice_set, replicate, All, sum_by, count_by}
use mathlib.Core.Option.{some}
use lib.ListN.{get_elem?}
use Rattle.claim_board.specs.Counts.{one_if, times_in_list, times_first, from_on}

-- what a pass does in one step, and what it finds: it draws a number, looks at a task and sees a
-- word, wins the task of a draw, or loses it to a word
pub data Deed : Type 0 where
  DrewNumber : ℕ → Deed
  SawWord : ℕ → ℕ → Deed
  WonTask : ℕ → Deed
  LostTask : ℕ → ℕ → Deed

-- what one pass has done: its draws in order, each task that it looked at with the word that it
-- saw, the draws that won their tasks, and each draw that lost with the word that stood there; and
-- all of it in order, each deed with its place in the one order of the steps of all passes
pub record PassState : Type 0 where
  pub number : ℕ
  pub draws : List ℕ
  pub seen : List (ℕ × ℕ)
  pub won : List ℕ
  pub lost : List (ℕ × ℕ)
  pub deeds : List (ℕ × Deed)
  pub ended : Bool

-- the number of the next draw, the word of each task, and the passes
pub record BoardState : Type 0 where
  pub next : ℕ
  pub words : List ℕ
  pub passes : List PassState

abbrev pub word_of_task : BoardState → ℕ → ℕ
word_of_task s t = slice_index s.words t

-- the task of a draw
abbrev pub task_of : ℕ → ℕ → ℕ
task_of tasks d = d % tasks

-- the attempt of a draw, from 1 on
abbrev pub attempt_of : ℕ → ℕ → ℕ
attempt_of tasks d = d / tasks + 1

-- the draws below it name the attempts of the tasks
abbrev pub limit : ℕ → ℕ → ℕ
limit tasks tries = tasks * tries

-- how often a deed stands at the place n
abbrev pub times_placed : ℕ → List (ℕ × Deed) → ℕ
times_placed n deeds = count_by (λ x. eqb x.0 n) deeds

-- how many draws of the task t are in the list
abbrev pub of_task : ℕ → ℕ → List ℕ → ℕ
of_task tasks t xs = count_by (λ d. eqb (task_of tasks d) t) xs

-- a pass that has done nothing
abbrev pub pass_begun : ℕ → PassState
pass_begun number = record {
  number = number;
  draws = [];
  seen = [];
  won = [];
  lost = [];
  deeds = [];
  ended = false;
}

-- how many steps the passes have made
abbrev pub steps_of : List PassState → ℕ
steps_of ps = sum_by (λ p. length p.deeds) ps

-- what each event, at the place n, leaves in the pass that makes it: after a draw of the limit or
-- more the pass has ended
abbrev pub drawn : ℕ → PassState → ℕ → ℕ → PassState
drawn most p n d = record p {
  draws = p.draws ++ d ∷ [];
  deeds = p.deeds ++ (n, DrewNumber d) ∷ [];
  ended = leb most d;
}

abbrev pub looked : PassState → ℕ → ℕ → ℕ → PassState
looked p n t x = record p {
  seen = p.seen ++ (t, x) ∷ [];
  deeds = p.deeds ++ (n, SawWord t x) ∷ [];
}

abbrev pub winning : PassState → ℕ → ℕ → PassState
winning p n d = record p {
  won = p.won ++ d ∷ [];
  deeds = p.deeds ++ (n, WonTask d) ∷ [];
}

abbrev pub losing : PassState → ℕ → ℕ → ℕ → PassState
losing p n d x = record p {
  lost = p.lost ++ (d, x) ∷ [];
  deeds = p.deeds ++ (n, LostTask d x) ∷ [];
}

-- what the i-th pass does: it draws, looks at a task, or claims the task of a draw and wins or
-- loses it
pub data Event : Type 0 where
  Draw : ℕ → Event
  Look : ℕ → ℕ → Event
  Win : ℕ → ℕ → Event
  Lose : ℕ → ℕ → Event

-- the passes k, k + 1, .., as many as n, that have done nothing
abbrev pub fresh_from : ℕ → ℕ → List PassState
fresh_from k zero = []
fresh_from k (suc n) = pass_begun k ∷ fresh_from (k + 1) n

abbrev pub start : ℕ → ℕ → BoardState
start tasks crew = record { next = 0; words = replicate tasks 0; passes = fresh_from 0 crew }

module _ (tasks tries : ℕ) where
  -- d is a draw of the pass below the limit, neither won nor lost: it may claim its task
  abbrev pub IsOpen : PassState → ℕ → Type 0
  IsOpen p d =
      (0 < times_in_list d p.draws) × (d < limit tasks tries) × (times_in_list d p.won ≡ 0)
      × (times_first d p.lost ≡ 0)

  -- the event leads from the old state to the new one
  abbrev pub Step : BoardState → Event → BoardState → Type 0
  Step old (Draw i) new =
      (p : PassState) × (get_elem? old.passes i ≡ some p) × (p.ended ≡ false)
      × (new ≡ record old {
        next = old.next + 1;
        passes =
            slice_set old.passes i (drawn (limit tasks tries) p (steps_of old.passes) old.next);
      })
  Step old (Look i t) new =
      (p : PassState) × (get_elem? old.passes i ≡ some p) × (t < tasks)
      × (new ≡ record old {
        passes = slice_set old.passes i (looked p (steps_of old.passes) t (word_of_task old t));
      })
  Step old (Win i d) new =
      (p : PassState) × (get_elem? old.passes i ≡ some p) × IsOpen p d
      × (word_of_task old (task_of tasks d) ≡ 0)
      × (new ≡ record old {
        words = slice_set old.words (task_of tasks d) (attempt_of tasks d);
        passes = slice_set old.passes i (winning p (steps_of old.passes) d);
      })
  Step old (Lose i d) new =
      (p : PassState) × (get_elem? old.passes i ≡ some p) × IsOpen p d
      × (word_of_task old (task_of tasks d) ≢ 0)
      × (new ≡ record old {
        passes =
            slice_set old.passes i
            (losing p (steps_of old.passes) d (word_of_task old (task_of tasks d)));
      })

  -- the events lead from the old state to the new one
  abbrev pub Runs : BoardState → List Event → BoardState → Type 0
  Runs old [] new = new ≡ old
  Runs old (e ∷ es) new = (mid : BoardState) × Step old e mid × Runs mid es new

  -- with the deed the next number and the words become m and ws, and it tells what stood there
  abbrev pub DeedGives : ℕ → List ℕ → Deed → ℕ → List ℕ → Type 0
  DeedGives next words (DrewNumber d) m ws = (d ≡ next) × (m ≡ next + 1) × (ws ≡ words)
  DeedGives next words (SawWord t x) m ws = (x ≡ slice_index words t) × (m ≡ next) × (ws ≡ words)
  DeedGives next words (WonTask d) m ws =
      (slice_index words (task_of tasks d) ≡ 0) × (m ≡ next)
      × (ws ≡ slice_set words (task_of tasks d) (attempt_of tasks d))
  DeedGives next words (LostTask d x) m ws =
      (x ≡ slice_index words (task_of tasks d)) × (x ≢ 0) × (m ≡ next) × (ws ≡ words)

  -- the deeds, one after the other, lead from there to there
  abbrev pub Lead : ℕ → List ℕ → List Deed → ℕ → List ℕ → Type 0
  Lead next words [] m ws = (m ≡ next) × (ws ≡ words)
  Lead next words (e ∷ es) m ws =
      (mid : ℕ) × (vs : List ℕ) × DeedGives next words e mid vs × Lead mid vs es m ws

  -- the deeds of all passes, each in its place, are one list, which leads from the start to what
  -- stands
  pub record IsInOrder (s : BoardState) : Type 0 where
    pub deeds : List Deed
    pub lead : Lead 0 (replicate tasks 0) deeds s.next s.words
    pub count : length deeds ≡ steps_of s.passes
    pub placed : All (λ p. All (λ x. get_elem? deeds x.0 ≡ some x.1) p.deeds) s.passes
    pub each_once : (n : ℕ) →
        (n < length deeds → sum_by (λ p. times_placed n p.deeds) s.passes ≡ 1)
        × (length deeds ≤ n → sum_by (λ p. times_placed n p.deeds) s.passes ≡ 0)

  -- what is good of one pass
  pub record IsGoodPass (words : List ℕ) (p : PassState) : Type 0 where
    -- it has at most one draw of the limit or more, and has ended exactly where it has one
    pub ends : from_on (limit tasks tries) p.draws ≡ one_if p.ended
    -- the attempt of each draw that it won is its task's word
    pub won : All (λ d. (d < limit tasks tries)
        × (slice_index words (task_of tasks d) ≡ attempt_of tasks d)) p.won
    -- each draw that it lost was lost to the word that stands, which is not 0
    pub lost : All (λ x. (x.0 < limit tasks tries)
        × (slice_index words (task_of tasks x.0) ≡ x.1) × (x.1 ≢ 0)) p.lost
    -- each word that it saw is 0 or the word that stands
    pub seen : All (λ x. (x.0 < tasks) × ((x.1 ≡ 0) ⊎ (slice_index words x.0 ≡ x.1))) p.seen
    -- what it won or lost are draws of its own, each in one of the two lists at most, and once
    pub own : (d : ℕ) → times_in_list d p.won + times_first d p.lost ≤ times_in_list d p.draws

  pub record IsGood (s : BoardState) : Type 0 where
    pub sized : length s.words ≡ tasks
    -- the draws of all passes together are the numbers below `next`, each once
    pub each_once : (d : ℕ) →
        (d < s.next → sum_by (λ p. times_in_list d p.draws) s.passes ≡ 1)
        × (s.next ≤ d → sum_by (λ p. times_in_list d p.draws) s.passes ≡ 0)
    -- of each task just one draw is in the won lists of all passes where its word is not 0,
    -- and none where it is 0
    pub one_winner : (t : ℕ) → t < tasks →
        (word_of_task s t ≡ 0 → sum_by (λ p. of_task tasks t p.won) s.passes ≡ 0)
        × (word_of_task s t ≢ 0 → sum_by (λ p. of_task tasks t p.won) s.passes ≡ 1)
    pub passes : All (IsGoodPass s.words) s.passes
    -- in the one order of their steps, what each pass has found is what stood there
    pub order : IsInOrder s
