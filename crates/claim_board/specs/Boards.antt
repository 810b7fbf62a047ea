-- What callers see of a board, of its passes, of a draw and of a tally.
use Rattle.std.specs.Prelude.{◌≡◌, ◌≢◌, ℕ, zero, suc, ◌<◌, ◌≤◌, List, [], ◌∷◌, ◌++◌, map, All}
use Rattle.claim_board.specs.Protocol.{PassState, pass_begun, drawn, looked, winning, losing, limit, task_of, attempt_of, IsOpen}

-- a board: a name, by which its passes know it, and its size
pub record Board : Type 0 where
  pub name : List ℕ
  pub tasks : ℕ
  pub tries : ℕ
  pub crew : ℕ

-- a pass: whose it is, and what it has done
pub record Pass : Type 0 where
  pub board : Board
  pub state : PassState

-- all passes of a board
pub record Passes : Type 0 where
  pub board : Board
  pub members : List Pass

-- a draw: its number, and the attempt of the task that it names
pub record Drawn : Type 0 where
  pub number : ℕ
  pub task : ℕ
  pub attempt : ℕ

-- the count of all draws, and for each task the attempt that won it, or 0
pub record Tally : Type 0 where
  pub draws : ℕ
  pub winners : List ℕ

-- the draws of a board that name its attempts are below it
abbrev pub limit_of : Board → ℕ
limit_of b = limit b.tasks b.tries

-- n passes with the numbers 0, 1, .. in order, that have done nothing
abbrev pub fresh_passes : Board → ℕ → List Pass
fresh_passes b zero = []
fresh_passes b (suc n) = fresh_passes b n ++ record { board = b; state = pass_begun n } ∷ []

-- the passes of a board, as it is made
abbrev pub new_passes : Board → Passes
new_passes b = record { board = b; members = fresh_passes b b.crew }

-- each pass is the board's
abbrev pub AreOfBoard : Board → List Pass → Type 0
AreOfBoard b ps = All (λ p. p.board ≡ b) ps

abbrev pub states_of : List Pass → List PassState
states_of ps = map (λ p. p.state) ps

-- the draw is one of the pass's, below the limit and neither won nor lost, and names what its
-- number says
pub record IsOpenDraw (b : Board) (p : PassState) (d : Drawn) : Type 0 where
  pub claimable : IsOpen b.tasks b.tries p d.number
  pub task : d.task ≡ task_of b.tasks d.number
  pub attempt : d.attempt ≡ attempt_of b.tasks d.number

-- each deed of the pass stands before the place n
abbrev pub AreBefore : ℕ → PassState → Type 0
AreBefore n p = All (λ x. x.0 < n) p.deeds

-- the pass has gained the draw, which may claim its task; all its earlier draws are lower
pub record Drew (b : Board) (old new : PassState) (d : Drawn) : Type 0 where
  pub place : ℕ
  pub later : AreBefore place old
  pub gained : new ≡ drawn (limit_of b) old place d.number
  pub claimable : IsOpenDraw b new d
  pub latest : All (λ x. x < d.number) old.draws

-- the pass has gained a number past the attempts, and has ended with it
pub record DrewNone (b : Board) (old new : PassState) : Type 0 where
  pub number : ℕ
  pub past : limit_of b ≤ number
  pub place : ℕ
  pub later : AreBefore place old
  pub gained : new ≡ drawn (limit_of b) old place number

-- the pass has looked at the task and seen the word, behind all that it did before
pub record Saw (old new : PassState) (t x : ℕ) : Type 0 where
  pub place : ℕ
  pub later : AreBefore place old
  pub gained : new ≡ looked old place t x

-- the pass has won the task of the draw, or lost it to the attempt x
pub record HasWon (old new : PassState) (d : ℕ) : Type 0 where
  pub place : ℕ
  pub later : AreBefore place old
  pub gained : new ≡ winning old place d

pub record HasLost (old new : PassState) (d x : ℕ) : Type 0 where
  pub place : ℕ
  pub later : AreBefore place old
  pub gained : new ≡ losing old place d x

-- each draw that the pass might claim, it still may
abbrev pub KeepsClaims : Board → PassState → PassState → Type 0
KeepsClaims b old new = (d : Drawn) → IsOpenDraw b old d → IsOpenDraw b new d

-- the same but for the draw n
abbrev pub KeepsOtherClaims : Board → PassState → PassState → ℕ → Type 0
KeepsOtherClaims b old new n = (d : Drawn) → n ≢ d.number → IsOpenDraw b old d → IsOpenDraw b new d
