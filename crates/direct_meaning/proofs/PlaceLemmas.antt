-- Members of lists by their places, and two lists whose members are related one by one.
use Rattle.std.proofs.Common.{◌≡◌, ℕ, zero, suc, ◌<◌, List, [], ◌∷◌, ◌++◌, length, map, Option}
use Rattle.std.proofs.Common.{Some, None, slice_get, refl, subst, arith, ⊎_elim}
use Rattle.std.specs.List.{AllZip, Contains}
use Rattle.std.specs.Option.{option_and_then, option_map}
use Rattle.flume_collection.proofs.Members.{at_head, at_tail, head_or_tail, not_in_none}
pub use Rattle.script_laws.proofs.MemberLemmas.{at_end, within, zip_at, zip_length}

-- ---- one list

pub at_front : {A : Type 0} (xs : List A) (y : A) (i : ℕ) → i < length xs
    → slice_get (xs ++ y ∷ []) i ≡ slice_get xs i
at_front [] y i below = absurd (omega arith)
at_front (x ∷ xs) y zero below = refl
at_front (x ∷ xs) y (suc i) below = at_front xs y i (omega arith)

-- what a function gives of a member at a place is given of that member
pub mapped : {A B : Type 0} (f : A → B) (o : Option A) (y : B) → option_map f o ≡ Some y
    → (x : A) × (o ≡ Some x) × (f x ≡ y)
mapped f None y is = cc
mapped f (Some x) y is = (x, refl, cc)

pub found_then : {A B : Type 0} (f : A → Option B) (o : Option A) (y : B)
    → option_and_then f o ≡ Some y → (x : A) × (o ≡ Some x) × (f x ≡ Some y)
found_then f None y is = cc
found_then f (Some x) y is = (x, refl, is)

pub mapped_has : {A B : Type 0} (f : A → B) (xs : List A) (x : A) → Contains xs x
    → Contains (map f xs) (f x)
mapped_has f [] x is = absurd (not_in_none x is)
mapped_has f (y ∷ xs) x is =
    ⊎_elim
    (λ (e : y ≡ x). subst (λ z. Contains (map f (y ∷ xs)) (f z)) e (at_head (f y) (map f xs)))
    (λ there. at_tail (f y) (map f xs) (f x) (mapped_has f xs x there)) (head_or_tail y xs x is)

-- ---- two lists

pub zip_back : {A B : Type 0} (R : A → B → Type 0) (xs : List A) (ys : List B) → AllZip R xs ys
    → (i : ℕ) (y : B) → slice_get ys i ≡ Some y → (x : A) × (slice_get xs i ≡ Some x) × R x y
zip_back R [] [] zipped i y is = cc
zip_back R [] (z ∷ ys) zipped i y is = absurd zipped
zip_back R (x ∷ xs) [] zipped i y is = absurd zipped
zip_back R (x ∷ xs) (z ∷ ys) zipped zero y is =
    let same : z ≡ y = cc in (x, refl, subst (R x) same zipped.0)
zip_back R (x ∷ xs) (z ∷ ys) zipped (suc i) y is = zip_back R xs ys zipped.1 i y is

pub zip_more : {A B : Type 0} (R : A → B → Type 0) (xs : List A) (ys : List B) (x : A) (y : B)
    → AllZip R xs ys → R x y → AllZip R (xs ++ x ∷ []) (ys ++ y ∷ [])
zip_more R [] [] x y zipped last = (last, tt)
zip_more R [] (z ∷ ys) x y zipped last = absurd zipped
zip_more R (w ∷ xs) [] x y zipped last = absurd zipped
zip_more R (w ∷ xs) (z ∷ ys) x y zipped last = (zipped.0, zip_more R xs ys x y zipped.1 last)
