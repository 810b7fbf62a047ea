-- A list of names in another, behind one of its names or in place of it.
use Rattle.std.specs.Prelude.{ℕ, ◌+◌, ◌==◌, nat_lt, Bool, cond, List, [], ◌∷◌, ◌++◌, length, take, drop, Option, Some, None}

-- behind the first j, which is kept or not
abbrev pub spliced : ℕ → Bool → List ℕ → List ℕ → List ℕ
spliced j k ys [] = []
spliced j k ys (x ∷ xs) =
    cond (x == j) (cond k (x ∷ []) [] ++ (ys ++ xs)) (x ∷ spliced j k ys xs)

-- behind that one, counted from 0 on
abbrev pub spliced_at : ℕ → Bool → List ℕ → List ℕ → List ℕ
spliced_at i k ys xs = take (cond k (i + 1) i) xs ++ (ys ++ drop (i + 1) xs)

-- where both are there, and the first is long enough
abbrev pub joined : ℕ → Bool → Option (List ℕ) → Option (List ℕ) → Option (List ℕ)
joined i k None ys = None
joined i k (Some xs) None = None
joined i k (Some xs) (Some ys) = cond (nat_lt i (length xs)) (Some (spliced_at i k ys xs)) None

-- as far as it is known
abbrev pub known : Bool → Option (List ℕ) → Option (List ℕ)
known b o = cond b o None
