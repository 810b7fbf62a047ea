-- The number of a list that stands at a place.
use Rattle.std.specs.Prelude.{ℕ, ◌==◌, ◌-◌, Bool, false, cond, List, [], ◌∷◌}
use Rattle.graph_joins.specs.declared.seeking.Sought.{Sought}
use Rattle.graph_joins.specs.declared.seeking.Sought.TheVariants.{Found, Behind}

abbrev pub seek : List ℕ → ℕ → Sought
seek [] k = Behind k
seek (n ∷ ns) k = cond (k == 0) (Found n) (seek ns (k - 1))

abbrev pub is_name : ℕ → Sought → Bool
is_name n (Found m) = m == n
is_name n (Behind k) = false

-- whether the number is the k-th of these
abbrev pub is_kth : List ℕ → ℕ → ℕ → Bool
is_kth ns k n = is_name n (seek ns k)
