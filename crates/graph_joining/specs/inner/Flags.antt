-- Flags that are raised.
use Rattle.std.specs.Prelude.{◌≡◌, ℕ, ◌||◌, Bool, List}
use Rattle.graph_walks.specs.Outs.{flag}

-- those that stood stand, and beside them those that pass the test
abbrev pub Adds : List Bool → List Bool → (ℕ → Bool) → Type 0
Adds old new p = (j : ℕ) → flag new j ≡ (flag old j || p j)
