-- Elements that a list has somewhere.
use Rattle.std.proofs.Common.{◌≡◌, ◌≢◌, ℕ, ◌<◌, inl, inr, ⊎_elim, List, [], ◌∷◌, ◌++◌, length, eqb, map, take, drop, true, false, refl, sym, ap, ◌∙◌, subst, arith}
use Rattle.std.proofs.Math.Seq.{take-append_seam}
use Rattle.std.specs.Prelude.{All, sum_by}
use Rattle.std.proofs.lemmas.Bool.Decides.{eqb_tells}
use Rattle.std.proofs.lemmas.List.Elements.{All-nil, All-cons, All-head, All-tail}
use Rattle.std.proofs.lemmas.List.Sums.{sum_by-cons, sum_by-append}
use Rattle.claim_board.specs.Counts.{one_if, times_in_list, times_first}
use Rattle.claim_board.proofs.Moves.{part}
use Rattle.outside.specs.Accounts.{Account}
use Rattle.crew.specs.Hosts.{SomeHost}

module _ (P : Account → Account → Type 0) where
  pub some_host_left : (xs ys us vs : List Account) → SomeHost P xs ys
      → SomeHost P (xs ++ us) (ys ++ vs)
  some_host_left [] ys us vs h = absurd h
  some_host_left (x ∷ xs) [] us vs h = absurd h
  some_host_left (x ∷ xs) (y ∷ ys) us vs h =
      ⊎_elim (λ (a : P x y). inl a)
      (λ (b : SomeHost P xs ys). inr (some_host_left xs ys us vs b)) h

  pub some_host_right : (xs ys us vs : List Account) → length xs ≡ length ys → SomeHost P us vs
      → SomeHost P (xs ++ us) (ys ++ vs)
  some_host_right [] [] us vs e h = h
  some_host_right [] (y ∷ ys) us vs e h = absurd (omega arith)
  some_host_right (x ∷ xs) [] us vs e h = absurd (omega arith)
  some_host_right (x ∷ xs) (y ∷ ys) us vs e h = inr (some_host_right xs ys us vs (omega arith) h)

pub one_if_eq : (x y : ℕ) → x ≡ y → one_if (eqb x y) ≡ 1
one_if_eq x y e =
    ⊎_elim (λ (t : (eqb x y ≡ true) × (x ≡ y)). ap one_if t.0)
    (λ (t : (eqb x y ≡ false) × (x ≢ y)). absurd (t.1 e)) (eqb_tells x y)

pub one_if_ne : (x y : ℕ) → x ≢ y → one_if (eqb x y) ≡ 0
one_if_ne x y n =
    ⊎_elim (λ (t : (eqb x y ≡ true) × (x ≡ y)). absurd (n t.1))
    (λ (t : (eqb x y ≡ false) × (x ≢ y)). ap one_if t.0) (eqb_tells x y)

pub times_left : (d : ℕ) (xs ys : List ℕ) → 0 < times_in_list d xs → 0 < times_in_list d (xs ++ ys)
times_left d xs ys h = let a = sum_by-append (λ (x : ℕ). one_if (eqb x d)) xs ys in omega arith

pub times_right : (d : ℕ) (xs ys : List ℕ) → 0 < times_in_list d ys → 0 < times_in_list d (xs ++ ys)
times_right d xs ys h = let a = sum_by-append (λ (x : ℕ). one_if (eqb x d)) xs ys in omega arith

pub times_first_left : (d : ℕ) (xs ys : List (ℕ × ℕ)) → 0 < times_first d xs
    → 0 < times_first d (xs ++ ys)
times_first_left d xs ys h =
    let a = sum_by-append (λ (x : ℕ × ℕ). one_if (eqb x.0 d)) xs ys in omega arith

pub times_first_right : (d : ℕ) (xs ys : List (ℕ × ℕ)) → 0 < times_first d ys
    → 0 < times_first d (xs ++ ys)
times_first_right d xs ys h =
    let a = sum_by-append (λ (x : ℕ × ℕ). one_if (eqb x.0 d)) xs ys in omega arith

pub times_one : (d : ℕ) → 0 < times_in_list d (d ∷ [])
times_one d = let e = one_if_eq d d refl in omega arith

pub times_first_one : (d x : ℕ) → 0 < times_first d ((d, x) ∷ [])
times_first_one d x = let e = one_if_eq d d refl in omega arith

-- what stands in a list has what each element has
pub all_times : (P : ℕ → Type 0) (d : ℕ) (xs : List ℕ) → All P xs → 0 < times_in_list d xs → P d
all_times P d xs h l =
    let r = part P (λ (x : ℕ). one_if (eqb x d)) xs h l in
    ⊎_elim (λ (t : (eqb r.0 d ≡ true) × (r.0 ≡ d)). subst P t.1 r.1)
    (λ (t : (eqb r.0 d ≡ false) × (r.0 ≢ d)).
    let z : one_if (eqb r.0 d) ≡ 0 = ap one_if t.0 in
    let m = r.2 in absurd (omega arith)) (eqb_tells r.0 d)

pub all_both : {A : Type 0} (P Q : A → Type 0) (xs : List A) → All P xs → All Q xs
    → All (λ x. P x × Q x) xs
all_both P Q xs h k i d l = (h i d l, k i d l)

pub all_zero : {A : Type 0} (f : A → ℕ) (xs : List A) → sum_by f xs ≡ 0 → All (λ x. f x ≡ 0) xs
all_zero f [] e = All-nil (λ x. f x ≡ 0)
all_zero f (x ∷ xs) e =
    let c = sum_by-cons f x xs in
    All-cons (λ y. f y ≡ 0) x xs (omega arith) (all_zero f xs (omega arith))

pub all_of_map : {A B : Type 0} (P : B → Type 0) (f : A → B) (xs : List A) → All P (map f xs)
    → All (λ x. P (f x)) xs
all_of_map P f [] h = All-nil (λ x. P (f x))
all_of_map P f (x ∷ xs) h =
    All-cons (λ y. P (f y)) x xs (All-head P (f x) (map f xs) h)
    (all_of_map P f xs (All-tail P (f x) (map f xs) h))

-- what was lent whole and came back as long
pub lent_back : {A : Type 0} (n : ℕ) (xs ys : List A) → length ys ≡ n
    → take n (ys ++ drop (length ys) xs) ≡ ys
lent_back n xs ys same =
    ap (λ (m : ℕ). take m (ys ++ drop (length ys) xs)) (sym same)
    ∙ take-append_seam ys (drop (length ys) xs)
