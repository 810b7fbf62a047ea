-- The work of a phase, as far as it came.
use Rattle.std.proofs.Common.{ℕ, inr, List, length}
use Rattle.std.specs.Prelude.{All}
use Rattle.std.proofs.lemmas.List.Elements.{All-weaker}
use Rattle.claim_board.specs.Protocol.{BoardState, IsGood}
use Rattle.claim_board.specs.Boards.{Pass, Tally}
use Rattle.claim_board.specs.Told.{closing_state}
use Rattle.outside.specs.Accounts.{Account}
use Rattle.crew.specs.Drills.{Settings}
use Rattle.crew.specs.Work.{Worker, Cause, CameFar, HaveWorked}
use Rattle.crew.specs.Workers.{AllTook}
use Rattle.crew.specs.Phases.{IsClosed, IsCut}
use Rattle.crew.proofs.Working.{came_all}

module _ (tasks : ℕ) (s : Settings) (places : ℕ → ℕ) (us vs : List Account) where
  -- of workers that may have stopped early
  pub took_so_far : (told : Tally) (ps : List Pass)
      → IsGood tasks s.tries (closing_state told ps) → AllTook tasks s places ps us vs
      → IsCut tasks s places us vs
  took_so_far told ps good took = inr (record {
    board = closing_state told ps;
    good = good;
    workers = took.0;
    are = took.1;
    came = took.2;
  })

  -- of workers that came to their end
  pub whole_so_far : (board : BoardState) → IsClosed tasks s (length us) board
      → HaveWorked tasks s places board.passes us vs → IsCut tasks s places us vs
  whole_so_far board closed worked =
      let Whole : Worker → Type 0 = λ w. All (Cause tasks s places w.pass) w.turns in
      let Far : Worker → Type 0 = λ w. CameFar tasks s places w.pass w.turns in
      inr (record {
        board = board;
        good = closed.good;
        workers = worked.workers;
        are = worked.are;
        came = All-weaker Whole Far (λ w h. came_all tasks s places w.pass w.turns h)
            worked.workers worked.causes;
      })
