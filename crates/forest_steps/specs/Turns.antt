-- Elements one after another, each by what its steps make of what was given.
use Rattle.std.specs.Prelude.{ℕ, List, [], ◌∷◌, Ok, map}
use Rattle.std.specs.List.{AllByRecursion}
use Rattle.flume_value.specs.declared.value.Value.{Value}
use Rattle.exec_graph.specs.Forests.{Branch, grown}
use Rattle.exec_graph.specs.World.{World}
use Rattle.forest_steps.specs.Running.{Given, Run, and_then, run}
use Rattle.forest_steps.specs.Safety.{Safe}

-- what the steps on an element make of what was given, or the trap that ends them
abbrev pub StepsTurn : Type 0
StepsTurn = Given → Run

-- one turn after another
abbrev pub in_turn : List StepsTurn → Given → Run
in_turn [] g = Ok g
in_turn (turn ∷ turns) g = and_then (turn g) (in_turn turns)

-- the first turn, where there is one
abbrev pub first_turn : List StepsTurn → Given → Run
first_turn [] g = Ok g
first_turn (turn ∷ turns) g = turn g

-- what the steps make on each of these elements
abbrev pub turns_on : World → List ℕ → List Branch → List Value → List StepsTurn
turns_on w sizes steps xs = map (run w sizes 0 (grown steps)) xs

-- the steps may be called on each of these elements
abbrev pub AreSafeOn : World → (ℕ → Value → Type 0) → List Branch → List Value → Type 0
AreSafeOn w takes steps xs = AllByRecursion (Safe w takes (grown steps)) xs
