-- What holds of each member of a list, and so of its parts. In proofs it is said by recursion
-- (`AllByRecursion`), in contracts by `All`.
use Rattle.std.proofs.Common.{◌≡◌, ℕ, zero, suc, Bool, true, false, cond, Some, subst, List, [], ◌∷◌, ◌++◌, map, take, drop, refl, arith}
use Rattle.std.specs.Prelude.{All, IsTrue, slice_get, filter}
use Rattle.std.specs.List.{AllByRecursion as Each, list_all}
use Rattle.flume_value.proofs.BoolLemmas.{both_true, and_both}

pub each_from : {A : Type 0} (P : A → Type 0) (xs : List A) → All P xs → Each P xs
each_from P [] h = tt
each_from P (x ∷ xs) h =
    (h 0 x (omega arith), each_from P xs (λ k d l. h (suc k) d (omega arith)))

pub Each-weaker : {A : Type 0} (P Q : A → Type 0) → ((x : A) → P x → Q x)
    → (xs : List A) → Each P xs → Each Q xs
Each-weaker P Q h [] e = tt
Each-weaker P Q h (x ∷ xs) e = (h x e.0, Each-weaker P Q h xs e.1)

pub Each-both : {A : Type 0} (P Q R : A → Type 0) → ((x : A) → P x → Q x → R x)
    → (xs : List A) → Each P xs → Each Q xs → Each R xs
Each-both P Q R h [] e f = tt
Each-both P Q R h (x ∷ xs) e f = (h x e.0 f.0, Each-both P Q R h xs e.1 f.1)

-- ---- parts

pub Each-append : {A : Type 0} (P : A → Type 0) (xs ys : List A) → Each P xs → Each P ys
    → Each P (xs ++ ys)
Each-append P [] ys e f = f
Each-append P (x ∷ xs) ys e f = (e.0, Each-append P xs ys e.1 f)

pub Each-left : {A : Type 0} (P : A → Type 0) (xs ys : List A) → Each P (xs ++ ys) → Each P xs
Each-left P [] ys e = tt
Each-left P (x ∷ xs) ys e = (e.0, Each-left P xs ys e.1)

pub Each-right : {A : Type 0} (P : A → Type 0) (xs ys : List A) → Each P (xs ++ ys) → Each P ys
Each-right P [] ys e = e
Each-right P (x ∷ xs) ys e = Each-right P xs ys e.1

pub Each-at : {A : Type 0} (P : A → Type 0) (xs : List A) (k : ℕ) (x : A)
    → Each P xs → Some x ≡ slice_get xs k → P x
Each-at P [] k x e h = cc
Each-at P (y ∷ ys) zero x e h = let same : y ≡ x = cc in subst P same e.0
Each-at P (y ∷ ys) (suc k) x e h = Each-at P ys k x e.1 h

pub Each-take : {A : Type 0} (P : A → Type 0) (n : ℕ) (xs : List A) → Each P xs → Each P (take n xs)
Each-take P zero xs e = tt
Each-take P (suc n) [] e = tt
Each-take P (suc n) (x ∷ xs) e = (e.0, Each-take P n xs e.1)

pub Each-drop : {A : Type 0} (P : A → Type 0) (n : ℕ) (xs : List A) → Each P xs → Each P (drop n xs)
Each-drop P zero xs e = e
Each-drop P (suc n) [] e = tt
Each-drop P (suc n) (x ∷ xs) e = Each-drop P n xs e.1

-- ---- what a list is made to

pub Each-map : {A B : Type 0} (P : B → Type 0) (f : A → B) (xs : List A)
    → Each (λ x. P (f x)) xs → Each P (map f xs)
Each-map P f [] e = tt
Each-map P f (x ∷ xs) e = (e.0, Each-map P f xs e.1)

pub Each-filter : {A : Type 0} (P : A → Type 0) (p : A → Bool) (xs : List A)
    → Each P xs → Each P (filter p xs)
Each-filter P p [] e = tt
Each-filter P p (x ∷ xs) e =
    elim (p x) as (λ b. Each P (cond b (x ∷ filter p xs) (filter p xs))) [
      | true ↦ (e.0, Each-filter P p xs e.1)
      | false ↦ Each-filter P p xs e.1
    ]

pub Each-filter_passes : {A : Type 0} (p : A → Bool) (xs : List A)
    → Each (λ x. p x ≡ true) (filter p xs)
Each-filter_passes p [] = tt
Each-filter_passes p (x ∷ xs) =
    elim (p x) as (λ b. p x ≡ b → Each (λ y. p y ≡ true) (cond b (x ∷ filter p xs) (filter p xs))) [
      | true ↦ λ e. (e, Each-filter_passes p xs)
      | false ↦ λ e. Each-filter_passes p xs
    ] refl

-- ---- a test of each member

pub each_passes : {A : Type 0} (p : A → Bool) (xs : List A)
    → list_all p xs ≡ true → Each (λ x. IsTrue (p x)) xs
each_passes p [] h = tt
each_passes p (x ∷ xs) h =
    let both = both_true (p x) (list_all p xs) h in (both.0, each_passes p xs both.1)

pub all_pass : {A : Type 0} (p : A → Bool) (xs : List A)
    → Each (λ x. IsTrue (p x)) xs → list_all p xs ≡ true
all_pass p [] e = refl
all_pass p (x ∷ xs) e = and_both (p x) (list_all p xs) e.0 (all_pass p xs e.1)
