-- Before any step.
use Rattle.std.specs.Prelude.{ℕ, List, [], ◌∷◌}
use Rattle.std.proofs.Common.{zero, suc}
use Rattle.forest_steps.specs.Running.{Given, OutputLists}

-- so many empty lists
abbrev pub empties : ℕ → OutputLists
empties zero = []
empties (suc n) = [] ∷ empties n

-- so many counts of nothing
abbrev pub zeros : ℕ → List ℕ
zeros zero = []
zeros (suc n) = 0 ∷ zeros n

-- nothing was given yet to so many lists and counts
abbrev pub none_given : ℕ → ℕ → Given
none_given lists counts = record { lists = empties lists; counts = zeros counts }
