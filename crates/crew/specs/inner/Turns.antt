-- What a worker does in one turn.
use Rattle.std.specs.Prelude.{◌≡◌, ◌⊎◌, ℕ, List, [], ◌∷◌, ◌++◌, length, map, All}
use Rattle.outside.specs.Cause.{RoseBy}
use Rattle.claim_board.specs.Protocol.{PassState, SawWord, task_of}
use Rattle.crew.specs.declared.kept.KeptOut.{KeptOut}
use Rattle.outside.specs.Accounts.{Account, Gains}
use Rattle.crew.specs.Drills.{Settings}
use Rattle.crew.specs.Outs.{IsOut, RanOn, draw_by}
use Rattle.crew.specs.Work.{Turn, HasDone, IsAsked, Cause, Worked, look_of}

module _ (tasks : ℕ) (s : Settings) where
  -- it took this turn, with the draw d, which its pass had
  pub record TookTurn (places : ℕ → ℕ) (d : ℕ) (old new : PassState) (a b : Account) (t : Turn)
      : Type 0 where
    pub draw : t.draw ≡ d
    pub draws : (new.draws ≡ old.draws) × (new.ended ≡ old.ended)
    pub seen : new.seen ≡ old.seen ++ look_of tasks t ∷ []
    pub deeds : HasDone old.deeds (SawWord (task_of tasks t.draw) t.word ∷ t.commit) new.deeds
    pub won : (more : List ℕ) × (new.won ≡ old.won ++ more)
    pub lost_to : (more : List (ℕ × ℕ)) × (new.lost ≡ old.lost ++ more)
    pub gains : Gains a b t.passed t.downs
    pub lost : RoseBy (length t.downs) a.losses b.losses
    pub asked : IsAsked tasks s places t

  -- the turn came to something, or stopped early
  abbrev pub TookOne : (ℕ → ℕ) → ℕ → PassState → PassState → Account → Account → Type 0
  TookOne places d old new a b =
      (t : Turn) × TookTurn places d old new a b t
      × (Cause tasks s places new t ⊎ (t.commit ≡ []))

  module _ {O : Type 0} (is_value : ℕ → O → Type 0) (places : ℕ → ℕ) where
    -- it kept what the draw won, or the turn has another cause
    pub record Turned (d : ℕ) (old new : PassState) (a b : Account) (ks : List (KeptOut O))
        : Type 0 where
      pub turn : Turn
      pub took : TookTurn places d old new a b turn
      pub cause : Cause tasks s places new turn
      pub won : new.won ≡ old.won ++ map (draw_by tasks) ks
      pub kept : All (λ k. IsOut is_value tasks s k × RanOn places s a b k) ks

    -- what a worker has done that has not drawn past the attempts
    pub record WorkedSoFar (old new : PassState) (a b : Account) (ks : List (KeptOut O))
        : Type 0 where
      pub worked : Worked tasks s is_value places old new a b ks
      pub none : worked.took.past ≡ []
