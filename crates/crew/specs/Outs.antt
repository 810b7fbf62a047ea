-- Outs that workers keep.
use Rattle.std.specs.Prelude.{◌≡◌, ℕ, ◌+◌, ◌<◌, ◌≤◌, false}
use Rattle.claim_board.specs.Told.{draw_of}
use Rattle.crew.specs.declared.kept.KeptOut.{KeptOut}
use Rattle.outside.specs.Accounts.{Account}
use Rattle.crew.specs.Hosts.{Passed, places_below}
use Rattle.crew.specs.Drills.{Settings, attempt_in, is_drilled}

module _ {O : Type 0} where
  -- the draw of the attempt that made an out
  abbrev pub draw_by : ℕ → KeptOut O → ℕ
  draw_by tasks k = draw_of tasks k.task k.attempt

  -- an out is its task's value, and its attempt is one of the tries, which the drill does not name
  pub record IsOut (is_value : ℕ → O → Type 0) (tasks : ℕ) (s : Settings) (k : KeptOut O)
      : Type 0 where
    pub task : k.task < tasks
    pub attempt : (0 < k.attempt) × (k.attempt ≤ s.tries)
    pub value : is_value k.task k.out
    pub drill : is_drilled s.drill (attempt_in s k.task k.attempt) ≡ false

  -- where the host tells, it has let each place of the attempt through since
  abbrev pub RanOn : (ℕ → ℕ) → Settings → Account → Account → KeptOut O → Type 0
  RanOn places s a b k =
      Passed a b (places_below (attempt_in s k.task k.attempt) (places k.task + 1))
