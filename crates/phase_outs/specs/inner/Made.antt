-- What is made of the outs that a crew has kept, in order of tasks.
use Rattle.std.specs.Prelude.{◌≡◌, ℕ, List, ◌∷◌, ◌++◌, map, Result, Ok, Err, ⊤}
use Rattle.flume_collection.specs.declared.trap.Trap.{Trap}
use Rattle.crew.specs.declared.kept.KeptOut.{KeptOut}
use Rattle.phase_outs.specs.declared.made.PhaseOuts.{PhaseOuts}
use Rattle.phase_outs.specs.declared.stop.PhaseStop.{PhaseStop}
use Rattle.phase_outs.specs.declared.stop.PhaseStop.TheVariants as stop

module _ {O : Type 0} where
  abbrev pub outs_in : List (KeptOut (Result O Trap)) → List (Result O Trap)
  outs_in kept = map (λ k. k.out) kept

  -- none of them is a trap, and these are the outs and the attempts
  pub record AreMadeOf (kept : List (KeptOut (Result O Trap))) (made : PhaseOuts O)
      : Type 0 where
    pub outs : outs_in kept ≡ map Ok made.outs.items
    pub attempts : map (λ k. k.attempt) kept ≡ made.attempts.items

  -- the first that is a trap is of this task
  pub record IsFirstTrap (kept : List (KeptOut (Result O Trap))) (task : ℕ) (trap : Trap)
      : Type 0 where
    pub before : List (KeptOut (Result O Trap))
    pub here : KeptOut (Result O Trap)
    pub behind : List (KeptOut (Result O Trap))
    pub whole : before ++ here ∷ behind ≡ kept
    pub made : List O
    pub outs : outs_in before ≡ map Ok made
    pub named : (here.task ≡ task) × (here.out ≡ Err trap)

  abbrev pub IsTrapped : List (KeptOut (Result O Trap)) → PhaseStop → Type 0
  IsTrapped kept (stop.Trap task trap) = IsFirstTrap kept task trap
  IsTrapped kept (stop.GaveUp task) = ⊥
  IsTrapped kept stop.Memory = ⊤
