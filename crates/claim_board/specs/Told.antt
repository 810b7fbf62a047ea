-- What a closed board tells of the passes that it was closed with.
use Rattle.std.specs.Prelude.{◌≡◌, ◌≢◌, ℕ, ◌+◌, ◌-◌, ◌*◌, ◌<◌, ◌≤◌, true, ◌⊎◌, List, slice_index, All, sum_by}
use Rattle.claim_board.specs.Counts.{times_in_list}
use Rattle.claim_board.specs.Protocol.{BoardState, task_of, of_task}
use Rattle.claim_board.specs.Boards.{Board, Pass, Tally, limit_of, states_of}

-- the tally and the passes, as a state of the protocol
abbrev pub closing_state : Tally → List Pass → BoardState
closing_state r ps = record { next = r.draws; words = r.winners; passes = states_of ps }

-- how often the draw d is in the draws, and in the won lists, of all passes
abbrev pub times_drawn : ℕ → List Pass → ℕ
times_drawn d ps = sum_by (λ p. times_in_list d p.state.draws) ps

abbrev pub times_won : ℕ → List Pass → ℕ
times_won d ps = sum_by (λ p. times_in_list d p.state.won) ps

-- how many draws of the task are in the won lists of all passes
abbrev pub wins_of : ℕ → ℕ → List Pass → ℕ
wins_of tasks t ps = sum_by (λ p. of_task tasks t p.state.won) ps

-- the passes have drawn all the numbers below `draws`, each once
abbrev pub DrawnOnce : Tally → List Pass → Type 0
DrawnOnce r ps =
    (d : ℕ) → (d < r.draws → times_drawn d ps ≡ 1) × (r.draws ≤ d → times_drawn d ps ≡ 0)

-- the draw that names the attempt a of the task t
abbrev pub draw_of : ℕ → ℕ → ℕ → ℕ
draw_of tasks t a = (a - 1) * tasks + t

-- a is the attempt of the one draw of the task that a pass won, or 0 where no pass won one
abbrev pub IsWinner : ℕ → List Pass → ℕ → ℕ → Type 0
IsWinner tasks ps t a =
    (a ≡ 0 → wins_of tasks t ps ≡ 0)
    × (a ≢ 0 → (wins_of tasks t ps ≡ 1) × (times_won (draw_of tasks t a) ps ≡ 1))

-- each winner is one
abbrev pub WonOnce : Board → Tally → List Pass → Type 0
WonOnce b r ps = (t : ℕ) → t < b.tasks → IsWinner b.tasks ps t (slice_index r.winners t)

-- each word that a pass saw is 0 or the winner of its task
abbrev pub SawWinners : Tally → List Pass → Type 0
SawWinners r ps =
    All (λ p. All (λ x. (x.1 ≡ 0) ⊎ (slice_index r.winners x.0 ≡ x.1)) p.state.seen) ps

-- each word that a draw was lost to is the winner of its task, and not 0
abbrev pub LostToWinners : Board → Tally → List Pass → Type 0
LostToWinners b r ps =
    All (λ p. All (λ x. (slice_index r.winners (task_of b.tasks x.0) ≡ x.1) × (x.1 ≢ 0))
    p.state.lost) ps

-- where a pass has ended, there were more draws than attempts
abbrev pub EndedPastLimit : Board → Tally → List Pass → Type 0
EndedPastLimit b r ps = All (λ p. p.state.ended ≡ true → limit_of b < r.draws) ps
