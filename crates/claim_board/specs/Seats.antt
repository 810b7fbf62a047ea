-- The rule of a board's table: its words and the views of its seats are a good state of the
-- protocol.
use Rattle.std.specs.Prelude.{◌≡◌, ◌≢◌, ℕ, ◌+◌, ◌^◌, ◌<◌, ◌≤◌, eqb, List, [], ◌∷◌, ◌++◌, length, slice_index, sum_by, count_by}
use mathlib.Core.Option.{some}
use lib.ListN.{get_elem?}
use Rattle.atomic_table.specs.Table.{State as TableState}
use Rattle.claim_board.specs.declared.size.Size.{Size}
use Rattle.claim_board.specs.Protocol.{PassState, BoardState, limit, IsGood}

-- what a seat knows: the board's size, how many passes it has made, and the passes that it stands
-- for. The seat of a pass stands for that pass, the seat that makes the passes for those that it
-- has taken over, and a spent seat for none
pub record View : Type 0 where
  pub size : Size
  pub made : ℕ
  pub passes : List PassState

abbrev pub limit_at : Size → ℕ
limit_at k = limit k.tasks k.tries

-- the sizes that a board may have
pub record IsSize (k : Size) : Type 0 where
  pub tasks : 0 < k.tasks
  pub tries : (0 < k.tries) × (k.tries ≤ 8)
  pub crew : (0 < k.crew) × (k.crew ≤ 16)
  pub limit : limit_at k < 2 ^ 31

abbrev pub maker_view : Size → ℕ → List PassState → View
maker_view k n ps = record { size = k; made = n; passes = ps }

abbrev pub pass_view : Size → PassState → View
pass_view k p = maker_view k 0 (p ∷ [])

abbrev pub spent_view : View
spent_view = maker_view record { tasks = 0; tries = 0; crew = 0 } 0 []

abbrev pub all_passes : List View → List PassState
all_passes [] = []
all_passes (v ∷ vs) = v.passes ++ all_passes vs

-- word 0 is the number of the next draw, and word t + 1 is that of the task t
abbrev pub task_words : List ℕ → List ℕ
task_words [] = []
task_words (w ∷ ws) = ws

abbrev pub words_state : List ℕ → List PassState → BoardState
words_state ws ps = record { next = slice_index ws 0; words = task_words ws; passes = ps }

abbrev pub state_of : List ℕ → List View → BoardState
state_of ws vs = words_state ws (all_passes vs)

-- how many passes the seats have made, and how many they stand for
abbrev pub passes_made : List View → ℕ
passes_made vs = sum_by (λ v. v.made) vs

abbrev pub all_held : List View → ℕ
all_held vs = sum_by (λ v. length v.passes) vs

-- how many of the passes have ended, and how many have the number x
abbrev pub all_ended : List PassState → ℕ
all_ended ps = count_by (λ p. p.ended) ps

abbrev pub all_numbered : ℕ → List PassState → ℕ
all_numbered x ps = count_by (λ p. eqb p.number x) ps

pub record Rule (k : Size) (s : TableState (Unit {0}) View) : Type 0 where
  pub size : IsSize k
  pub wide : length s.words ≡ k.tasks + 1
  pub good : IsGood k.tasks k.tries (state_of s.words s.views)
  -- each pass draws at most once past the limit, so that word 0 never wraps
  pub room : slice_index s.words 0 ≤ limit_at k + all_ended (all_passes s.views)
  -- only the first seat makes passes
  pub one_maker : (j : ℕ) (v : View) → get_elem? s.views j ≡ some v → j ≢ 0 → v.made ≡ 0
  pub few : passes_made s.views ≤ k.crew
  -- the passes, with those that were taken over, have the numbers below the count of those made,
  -- each once
  pub counted : all_held s.views ≡ passes_made s.views
  pub numbers : (x : ℕ) →
      (x < passes_made s.views → all_numbered x (all_passes s.views) ≡ 1)
      × (passes_made s.views ≤ x → all_numbered x (all_passes s.views) ≡ 0)
