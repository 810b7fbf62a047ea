-- A list in front of a place and behind it.
use Rattle.std.proofs.Common.{◌≡◌, ℕ, zero, suc, List, [], ◌∷◌, ◌++◌, length, Some}
use Rattle.std.proofs.Common.{slice_get, refl, arith, ap}

-- a list is the members before a place, that one, and the rest
pub split_at : {A : Type 0} (xs : List A) (i : ℕ) (x : A) → slice_get xs i ≡ Some x
    → (before rest : List A) × (before ++ x ∷ rest ≡ xs) × (length before ≡ i)
split_at [] i x is = cc
split_at (y ∷ xs) zero x is =
    let same : x ≡ y = cc in ([], xs, ap (λ z. z ∷ xs) same, refl)
split_at (y ∷ xs) (suc i) x is =
    let it = split_at xs i x is in
    let at = it.3 in
    (y ∷ it.0, it.1, ap (λ l. y ∷ l) it.2, omega arith)
