-- Lists whose members are made of their places.
use Rattle.std.proofs.Common.{◌≡◌, ◌<◌, ◌≤◌, ◌+◌, ℕ, zero, suc, false, List, [], ◌∷◌, map, Some, refl, sym, ap, ◌∙◌, subst, arith}
use Rattle.std.specs.Prelude.{slice_set, slice_get, ◌==◌}
use Rattle.std.specs.List.{AllZip, range_with_len}

same_from : {X : Type 0} (f g : ℕ → X) (a m : ℕ) → ((p : ℕ) → a ≤ p → f p ≡ g p)
    → map f (range_with_len a m) ≡ map g (range_with_len a m)
same_from f g a zero h = refl
same_from f g a (suc m) h =
    λ i. h a (omega arith) i ∷ same_from f g (a + 1) m (λ p low. h p (omega arith)) i

-- one member is set, and the others are as they were
pub set_ranged : {X : Type 0} (f g : ℕ → X) (a m i : ℕ) (v : X) → i < m → v ≡ g (a + i)
    → ((p : ℕ) → (a + i == p) ≡ false → f p ≡ g p)
    → slice_set (map f (range_with_len a m)) i v ≡ map g (range_with_len a m)
set_ranged f g a zero i v l is h = absurd (omega arith)
set_ranged f g a (suc m) zero v l is h =
    let here : a + 0 ≡ a = omega arith in
    let first : v ≡ g a = is ∙ ap g here in
    let rest = same_from f g (a + 1) m (λ p low.
    let apart : (a + 0 == p) ≡ false = grind arith in h p apart) in
    λ j. first j ∷ rest j
set_ranged f g a (suc m) (suc i) v l is h =
    let next : a + suc i ≡ a + 1 + i = omega arith in
    let apart : (a + suc i == a) ≡ false = grind arith in
    let rest = set_ranged f g (a + 1) m i v (omega arith) (is ∙ ap g next)
    (λ p e. h p (subst (λ n. (n == p) ≡ false) (sym next) e)) in
    λ j. h a apart j ∷ rest j

pub get_ranged : {X : Type 0} (f : ℕ → X) (a m i : ℕ) → i < m
    → slice_get (map f (range_with_len a m)) i ≡ Some (f (a + i))
get_ranged f a zero i l = absurd (omega arith)
get_ranged f a (suc m) zero l = let here : a ≡ a + 0 = omega arith in ap (λ n. Some (f n)) here
get_ranged f a (suc m) (suc i) l =
    let next : a + 1 + i ≡ a + suc i = omega arith in
    get_ranged f (a + 1) m i (omega arith) ∙ ap (λ n. Some (f n)) next

-- what stands at a place, where a list is zipped with one that is made of places
pub zip_at : {A B : Type 0} (R : A → B → Type 0) (xs : List A) (f : ℕ → B) (a m i : ℕ)
    → AllZip R xs (map f (range_with_len a m)) → i < m
    → (x : A) × (slice_get xs i ≡ Some x) × R x (f (a + i))
zip_at R [] f a zero i z l = absurd (omega arith)
zip_at R [] f a (suc m) i z l = absurd z
zip_at R (x ∷ xs) f a zero i z l = absurd z
zip_at R (x ∷ xs) f a (suc m) zero z l =
    let here : a ≡ a + 0 = omega arith in (x, refl, subst (λ n. R x (f n)) here z.0)
zip_at R (x ∷ xs) f a (suc m) (suc i) z l =
    let next : a + 1 + i ≡ a + suc i = omega arith in
    let rest = zip_at R xs f (a + 1) m i z.1 (omega arith) in
    (rest.0, rest.1, subst (λ n. R rest.0 (f n)) next rest.2)
