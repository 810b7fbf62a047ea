-- Sums over lists, and facts of each element.
use Rattle.std.proofs.Common.{◌≡◌, ◌≢◌, ℕ, zero, suc, ◌+◌, ◌≤◌, true, false, eqb, List, [], ◌∷◌, ◌++◌, set, refl, sym, ap, subst, arith, ⊎_elim}
use Rattle.std.proofs.lemmas.Bool.Decides.{eqb_tells}
use Rattle.std.proofs.lemmas.List.Elements.{All-head, All-tail, All-cons, All-nil, All-set, All-weaker}
use Rattle.std.proofs.lemmas.List.Sums.{sum_by-cons}
use Rattle.std.specs.Prelude.{All, sum_by}
use mathlib.Core.Option.{some, some-ne-none, some-injective}
use lib.ListN.{get_elem?}
use Rattle.claim_board.specs.Counts.{one_if, times_in_list, times_first}

module _ {A : Type 0} (f : A → ℕ) where
  pub total_set : (xs : List A) (i : ℕ) (v w : A) → get_elem? xs i ≡ some v
      → sum_by f (set xs i w) + f v ≡ sum_by f xs + f w
  total_set [] i v w e = absurd (some-ne-none v (sym e))
  total_set (x ∷ xs) zero v w e =
      let same : f x ≡ f v = ap f (some-injective x v e) in
      omega (arith, sum_by-cons f x xs, sum_by-cons f w xs)
  total_set (x ∷ xs) (suc i) v w e =
      let r = total_set xs i v w e in
      omega (arith, sum_by-cons f x xs, sum_by-cons f x (set xs i w))

  -- the same where the change of f is known
  pub total_up : (xs : List A) (i k : ℕ) (v w : A) → get_elem? xs i ≡ some v → f w ≡ f v + k
      → sum_by f (set xs i w) ≡ sum_by f xs + k
  total_up xs i k v w e up = let r = total_set xs i v w e in omega arith

  pub total_at : (xs : List A) (i : ℕ) (v : A) → get_elem? xs i ≡ some v → f v ≤ sum_by f xs
  total_at [] i v e = absurd (some-ne-none v (sym e))
  total_at (x ∷ xs) zero v e =
      let same : f x ≡ f v = ap f (some-injective x v e) in omega (arith, sum_by-cons f x xs)
  total_at (x ∷ xs) (suc i) v e =
      let r = total_at xs i v e in omega (arith, sum_by-cons f x xs)

  pub total_none : (xs : List A) → All (λ x. f x ≡ 0) xs → sum_by f xs ≡ 0
  total_none [] h = refl
  total_none (x ∷ xs) h =
      let r = total_none xs (All-tail (λ y. f y ≡ 0) x xs h) in
      let z = All-head (λ y. f y ≡ 0) x xs h in omega (arith, sum_by-cons f x xs)

module _ {A : Type 0} (P : A → Type 0) where
  pub all_left : (xs ys : List A) → All P (xs ++ ys) → All P xs
  all_left [] ys h = All-nil P
  all_left (x ∷ xs) ys h =
      All-cons P x xs (All-head P x (xs ++ ys) h) (all_left xs ys (All-tail P x (xs ++ ys) h))

  pub all_right : (xs ys : List A) → All P (xs ++ ys) → All P ys
  all_right [] ys h = h
  all_right (x ∷ xs) ys h = all_right xs ys (All-tail P x (xs ++ ys) h)

  pub all_set : (xs : List A) (i : ℕ) (w : A) → All P xs → P w → All P (set xs i w)
  all_set xs i w h k = All-set P xs i w k h

  pub all_at : (xs : List A) (i : ℕ) (v : A) → All P xs → get_elem? xs i ≡ some v → P v
  all_at [] i v h e = absurd (some-ne-none v (sym e))
  all_at (x ∷ xs) zero v h e = subst P (some-injective x v e) (All-head P x xs h)
  all_at (x ∷ xs) (suc i) v h e = all_at xs i v (All-tail P x xs h) e

  pub all_map : (Q : A → Type 0) (xs : List A) → ((x : A) → P x → Q x) → All P xs → All Q xs
  all_map Q xs f h = All-weaker P Q f xs h

pub one_if_eq : (x y : ℕ) → x ≡ y → one_if (eqb x y) ≡ 1
one_if_eq x y e = ⊎_elim (λ (t : (eqb x y ≡ true) × (x ≡ y)). ap one_if t.0)
    (λ (t : (eqb x y ≡ false) × (x ≢ y)). absurd (t.1 e)) (eqb_tells x y)

pub one_if_ne : (x y : ℕ) → x ≢ y → one_if (eqb x y) ≡ 0
one_if_ne x y n = ⊎_elim (λ (t : (eqb x y ≡ true) × (x ≡ y)). absurd (n t.1))
    (λ (t : (eqb x y ≡ false) × (x ≢ y)). ap one_if t.0) (eqb_tells x y)

-- a fact that depends on whether two numbers are equal
pub at_test : (x y : ℕ) (F : ℕ → Type 0) → (x ≡ y → F 1) → (x ≢ y → F 0) → F (one_if (eqb x y))
at_test x y F hit miss = ⊎_elim
    (λ (t : (eqb x y ≡ true) × (x ≡ y)). subst F (sym (ap one_if t.0)) (hit t.1))
    (λ (t : (eqb x y ≡ false) × (x ≢ y)). subst F (sym (ap one_if t.0)) (miss t.1))
    (eqb_tells x y)

-- where no element is d
pub times_none : (d : ℕ) (xs : List ℕ) → All (λ x. x ≢ d) xs → times_in_list d xs ≡ 0
times_none d xs h =
    total_none (λ (x : ℕ). one_if (eqb x d)) xs
    (all_map (λ x. x ≢ d) (λ x. one_if (eqb x d) ≡ 0) xs (λ x n. one_if_ne x d n) h)

pub times_first_none : (d : ℕ) (xs : List (ℕ × ℕ)) → All (λ x. x.0 ≢ d) xs → times_first d xs ≡ 0
times_first_none d xs h =
    total_none (λ (x : ℕ × ℕ). one_if (eqb x.0 d)) xs
    (all_map (λ x. x.0 ≢ d) (λ x. one_if (eqb x.0 d) ≡ 0) xs (λ x n. one_if_ne x.0 d n) h)

-- one number more in front
pub times-cons : (d x : ℕ) (xs : List ℕ)
    → times_in_list d (x ∷ xs) ≡ one_if (eqb x d) + times_in_list d xs
times-cons d x xs = sum_by-cons (λ (y : ℕ). one_if (eqb y d)) x xs
