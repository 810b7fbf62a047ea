-- Members of lists by their places, and two lists whose members are related one by one.
use Rattle.std.proofs.Common.{◌≡◌, ℕ, zero, suc, ◌-◌, ◌<◌, ◌≤◌, List, [], ◌∷◌, ◌++◌, length, take}
use Rattle.std.proofs.Common.{map, Some, slice_get, refl, subst, arith, ap, ◌∙◌}
use Rattle.std.specs.List.{AllZip}

-- ---- one list

pub at_end : {A : Type 0} (xs : List A) (y : A) (ys : List A)
    → slice_get (xs ++ y ∷ ys) (length xs) ≡ Some y
at_end [] y ys = refl
at_end (x ∷ xs) y ys = at_end xs y ys

pub within : {A : Type 0} (xs : List A) (i : ℕ) (x : A) → slice_get xs i ≡ Some x → i < length xs
within [] i x is = cc
within (y ∷ xs) zero x is = omega arith
within (y ∷ xs) (suc i) x is = let below = within xs i x is in omega arith

pub in_taken : {A : Type 0} (n : ℕ) (xs : List A) (i : ℕ) → i < n
    → slice_get (take n xs) i ≡ slice_get xs i
in_taken zero xs i below = absurd (omega arith)
in_taken (suc n) [] i below = refl
in_taken (suc n) (x ∷ xs) zero below = refl
in_taken (suc n) (x ∷ xs) (suc i) below = in_taken n xs i (omega arith)

pub taken_length : {A : Type 0} (n : ℕ) (xs : List A) → n ≤ length xs → length (take n xs) ≡ n
taken_length zero xs within = refl
taken_length (suc n) [] within = absurd (omega arith)
taken_length (suc n) (x ∷ xs) within =
    let rest = taken_length n xs (omega arith) in omega arith

-- ---- two lists put together

pub in_first : {A : Type 0} (xs ys : List A) (i : ℕ) → i < length xs
    → slice_get (xs ++ ys) i ≡ slice_get xs i
in_first [] ys i below = absurd (omega arith)
in_first (x ∷ xs) ys zero below = refl
in_first (x ∷ xs) ys (suc i) below = in_first xs ys i (omega arith)

pub in_second : {A : Type 0} (xs ys : List A) (i : ℕ) → length xs ≤ i
    → slice_get (xs ++ ys) i ≡ slice_get ys (i - length xs)
in_second [] ys i below = let e : i ≡ i - 0 = omega arith in ap (slice_get ys) e
in_second (x ∷ xs) ys zero below = absurd (omega arith)
in_second (x ∷ xs) ys (suc i) below =
    let e : i - length xs ≡ suc i - suc (length xs) = omega arith in
    in_second xs ys i (omega arith) ∙ ap (slice_get ys) e

-- ---- a mapped list

pub of_mapped : {A B : Type 0} (f : A → B) (xs : List A) (i : ℕ) (x : A)
    → slice_get xs i ≡ Some x → slice_get (map f xs) i ≡ Some (f x)
of_mapped f [] i x is = cc
of_mapped f (y ∷ xs) zero x is = let same : y ≡ x = cc in ap (λ z. Some (f z)) same
of_mapped f (y ∷ xs) (suc i) x is = of_mapped f xs i x is

pub in_mapped : {A B : Type 0} (f : A → B) (xs : List A) (i : ℕ) (y : B)
    → slice_get (map f xs) i ≡ Some y → (x : A) × (slice_get xs i ≡ Some x) × (f x ≡ y)
in_mapped f [] i y is = cc
in_mapped f (x ∷ xs) zero y is = (x, refl, cc)
in_mapped f (x ∷ xs) (suc i) y is = in_mapped f xs i y is

-- ---- two lists, one by one

pub zip_at : {A B : Type 0} (R : A → B → Type 0) (xs : List A) (ys : List B) → AllZip R xs ys
    → (i : ℕ) (x : A) → slice_get xs i ≡ Some x → (y : B) × (slice_get ys i ≡ Some y) × R x y
zip_at R [] ys zipped i x is = cc
zip_at R (z ∷ xs) [] zipped i x is = absurd zipped
zip_at R (z ∷ xs) (y ∷ ys) zipped zero x is =
    let same : z ≡ x = cc in (y, refl, subst (λ v. R v y) same zipped.0)
zip_at R (z ∷ xs) (y ∷ ys) zipped (suc i) x is = zip_at R xs ys zipped.1 i x is

pub zip_length : {A B : Type 0} (R : A → B → Type 0) (xs : List A) (ys : List B) → AllZip R xs ys
    → length xs ≡ length ys
zip_length R [] [] zipped = refl
zip_length R [] (z ∷ ys) zipped = absurd zipped
zip_length R (w ∷ xs) [] zipped = absurd zipped
zip_length R (w ∷ xs) (z ∷ ys) zipped =
    let rest = zip_length R xs ys zipped.1 in
    omega arith
