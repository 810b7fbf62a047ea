-- What the workers of a phase do, side by side, each with a pass of one board and a host.
use Rattle.std.specs.Prelude.{◌≡◌, ℕ, ◌<◌, true, List, [], ◌∷◌, ◌++◌, length, map, All}
use Rattle.claim_board.specs.Protocol.{PassState}
use Rattle.claim_board.specs.Boards.{Board, Pass, AreOfBoard, states_of}
use Rattle.crew.specs.declared.kept.KeptOut.{KeptOut}
use Rattle.outside.specs.Accounts.{Account}
use Rattle.crew.specs.Hosts.{SomeHost}
use Rattle.crew.specs.Drills.{Settings}
use Rattle.crew.specs.Outs.{IsOut, RanOn, draw_by}
use Rattle.crew.specs.Work.{Worker, AreWorkers, CameFar, HaveWorked}

-- a pass that has done nothing
pub record IsFresh (p : PassState) : Type 0 where
  pub won : p.won ≡ []
  pub draws : p.draws ≡ []
  pub seen : p.seen ≡ []
  pub deeds : p.deeds ≡ []

-- the passes are the board's, have done nothing, and are as many as the hosts; the board is for so
-- many tasks, with so many tries
pub record CanStart (b : Board) (count most hosts : ℕ) (ps : List Pass) : Type 0 where
  pub board : AreOfBoard b ps
  pub fresh : All (λ p. IsFresh p.state) ps
  pub passes : (hosts ≡ length ps) × (0 < length ps)
  pub tasks : (b.tasks ≡ count) × (0 < count)
  pub tries : b.tries ≡ most

-- the draws that passes have won, pass by pass
abbrev pub wons : List Pass → List ℕ
wons [] = []
wons (p ∷ ps) = p.state.won ++ wons ps

module _ (tasks : ℕ) (s : Settings) where
  -- however far they came, each worker took turns with its pass and its host
  abbrev pub AllTook : (ℕ → ℕ) → List Pass → List Account → List Account → Type 0
  AllTook places ps olds news =
      (ws : List Worker) × AreWorkers tasks s places (states_of ps) olds news ws
      × All (λ w. CameFar tasks s places w.pass w.turns) ws

  -- they kept the outs of just the draws that the passes have won; no pass has a draw left, and
  -- each turn came to something
  pub record Phased {O : Type 0} (is_value : ℕ → O → Type 0) (places : ℕ → ℕ) (ps : List Pass)
      (olds news : List Account) (ks : List (KeptOut O)) : Type 0 where
    pub won : wons ps ≡ map (draw_by tasks) ks
    pub kept :
        All (λ k. IsOut is_value tasks s k × SomeHost (λ a b. RanOn places s a b k) olds news) ks
    pub ended : All (λ p. p.state.ended ≡ true) ps
    pub worked : HaveWorked tasks s places (states_of ps) olds news
