-- How many of the outputs of a forest's steps are a step's first, and how many are kept.
use Rattle.std.specs.Prelude.{◌+◌, ℕ, Bool, cond, List, [], ◌∷◌, Option, Some, None}
use Rattle.exec_graph.specs.declared.spots.Spot.{Spot}

abbrev pub one_first : Bool → ℕ
one_first b = cond b 1 0

-- how many outputs are the first of their step
abbrev pub firsts : List Spot → ℕ
firsts [] = 0
firsts (s ∷ ss) = one_first s.first + firsts ss

abbrev pub one_kept : Option ℕ → ℕ
one_kept None = 0
one_kept (Some j) = 1

-- how many outputs are kept
abbrev pub kept : List Spot → ℕ
kept [] = 0
kept (s ∷ ss) = one_kept s.out + kept ss
