-- How many attempts of a task a list accounts for.
use Rattle.std.proofs.Common.{◌≡◌, ◌≢◌, ℕ, zero, suc, ◌+◌, ◌<◌, ◌≤◌, Bool, true, false, eqb, leb, ◌&&◌, ◌||◌, ◌⊎◌, ⊎_elim, List, [], ◌∷◌, length, refl, sym, ap, ◌∙◌, subst, arith}
use Rattle.std.specs.Prelude.{count_by}
use Rattle.std.specs.List.{list_any}
use Rattle.std.proofs.lemmas.Bool.Decides.{eqb_tells, leb_tells}
use Rattle.std.proofs.lemmas.List.Sums.{sum_by-cons}
use Rattle.claim_board.specs.Counts.{one_if}

module _ {X : Type 0} (p q : X → Bool) (a : X → ℕ) where
  -- those of the first n attempts
  abbrev pub first : ℕ → List X → ℕ
  first n xs = count_by (λ x. p x && (q x && (leb 1 (a x) && leb (a x) n))) xs

  -- those of the attempt n
  abbrev pub just : ℕ → List X → ℕ
  just n xs = count_by (λ x. p x && (q x && eqb (a x) n)) xs

le_true : (a b : ℕ) → a ≤ b → leb a b ≡ true
le_true a b l =
    ⊎_elim (λ (t : (leb a b ≡ true) × (a ≤ b)). t.0)
    (λ (t : (leb a b ≡ false) × (b < a)). let m = t.1 in absurd (omega arith)) (leb_tells a b)

lt_false : (a b : ℕ) → b < a → leb a b ≡ false
lt_false a b l =
    ⊎_elim (λ (t : (leb a b ≡ true) × (a ≤ b)). let m = t.1 in absurd (omega arith))
    (λ (t : (leb a b ≡ false) × (b < a)). t.0) (leb_tells a b)

pub and_false : (b : Bool) → one_if (b && false) ≡ 0
and_false true = refl
and_false false = refl

both : (b c d e : Bool) → b ≡ d → c ≡ e → one_if (b && c) ≡ one_if (d && e)
both b c d e x y = ap (λ (u : Bool × Bool). one_if (u.0 && u.1)) (λ i. (x i, y i))

numbers_step : (a n : ℕ)
    → one_if (leb 1 a && leb a n) + one_if (eqb a (n + 1)) ≤ one_if (leb 1 a && leb a (n + 1))
numbers_step a n =
    ⊎_elim
    (λ (t : (eqb a (n + 1) ≡ true) × (a ≡ n + 1)).
    let is = t.1 in
    let one : one_if (eqb a (n + 1)) ≡ 1 = ap one_if t.0 in
    let low = le_true 1 a (omega arith) in
    let x : one_if (leb 1 a && leb a n) ≡ 0 =
    both (leb 1 a) (leb a n) true false low (lt_false a n (omega arith)) in
    let y : one_if (leb 1 a && leb a (n + 1)) ≡ 1 =
    both (leb 1 a) (leb a (n + 1)) true true low (le_true a (n + 1) (omega arith)) in
    omega arith)
    (λ (t : (eqb a (n + 1) ≡ false) × (a ≢ n + 1)).
    let none : one_if (eqb a (n + 1)) ≡ 0 = ap one_if t.0 in
    ⊎_elim
    (λ (u : (leb a n ≡ true) × (a ≤ n)).
    let l = u.1 in
    let e = both (leb 1 a) (leb a n) (leb 1 a) (leb a (n + 1)) refl
    (u.0 ∙ sym (le_true a (n + 1) (omega arith))) in omega arith)
    (λ (u : (leb a n ≡ false) × (n < a)).
    let z : one_if (leb 1 a && leb a n) ≡ 0 =
    ap (λ (b : Bool). one_if (leb 1 a && b)) u.0 ∙ and_false (leb 1 a) in omega arith)
    (leb_tells a n))
    (eqb_tells a (n + 1))

tests_step : (b c : Bool) (a n : ℕ)
    → one_if (b && (c && (leb 1 a && leb a n))) + one_if (b && (c && eqb a (n + 1)))
    ≤ one_if (b && (c && (leb 1 a && leb a (n + 1))))
tests_step true true a n = numbers_step a n
tests_step true false a n = omega arith
tests_step false c a n = omega arith

pub one_if_low : (b : Bool) → one_if b ≤ 1
one_if_low true = omega arith
one_if_low false = omega arith

module _ {X : Type 0} (p q : X → Bool) (a : X → ℕ) where
  first-cons : (n : ℕ) (x : X) (xs : List X) → first p q a n (x ∷ xs)
      ≡ one_if (p x && (q x && (leb 1 (a x) && leb (a x) n))) + first p q a n xs
  first-cons n x xs =
      sum_by-cons (λ (y : X). one_if (p y && (q y && (leb 1 (a y) && leb (a y) n)))) x xs

  just-cons : (n : ℕ) (x : X) (xs : List X) → just p q a n (x ∷ xs)
      ≡ one_if (p x && (q x && eqb (a x) n)) + just p q a n xs
  just-cons n x xs = sum_by-cons (λ (y : X). one_if (p y && (q y && eqb (a y) n))) x xs

  first_step : (n : ℕ) (xs : List X)
      → first p q a n xs + just p q a (n + 1) xs ≤ first p q a (n + 1) xs
  first_step n [] = omega arith
  first_step n (x ∷ xs) =
      let r = first_step n xs in let s = tests_step (p x) (q x) (a x) n in
      omega (arith, first-cons n x xs, just-cons (n + 1) x xs, first-cons (n + 1) x xs)

  pub first_length : (n : ℕ) (xs : List X) → first p q a n xs ≤ length xs
  first_length n [] = omega arith
  first_length n (x ∷ xs) =
      let r = first_length n xs in
      let s = one_if_low (p x && (q x && (leb 1 (a x) && leb (a x) n))) in
      omega (arith, first-cons n x xs)

-- where each attempt is accounted for, by one list or the other
pub all_accounted : {X Y : Type 0} (p q : X → Bool) (a : X → ℕ) (p' q' : Y → Bool) (a' : Y → ℕ)
    (xs : List X) (ys : List Y) (n : ℕ)
    → ((k : ℕ) → k < n → (0 < just p q a (k + 1) xs) ⊎ (0 < just p' q' a' (k + 1) ys))
    → n ≤ first p q a n xs + first p' q' a' n ys
all_accounted p q a p' q' a' xs ys zero h = omega arith
all_accounted p q a p' q' a' xs ys (suc n) h =
    let r = all_accounted p q a p' q' a' xs ys n (λ k l. h k (omega arith)) in
    let s = first_step p q a n xs in let t = first_step p' q' a' n ys in
    let up : suc n ≤ first p q a (n + 1) xs + first p' q' a' (n + 1) ys =
    ⊎_elim (λ (x : 0 < just p q a (n + 1) xs). omega arith)
    (λ (x : 0 < just p' q' a' (n + 1) ys). omega arith) (h n (omega arith)) in
    subst (λ (m : ℕ). suc n ≤ first p q a m xs + first p' q' a' m ys)
    (let e : n + 1 ≡ suc n = omega arith in e) up

any_step : (b c : Bool) (n : ℕ) → (b || c) ≡ true → (c ≡ true → 0 < n) → 0 < one_if b + n
any_step true c n e r = omega arith
any_step false c n e r = let l = r e in omega arith

-- a test that some element passes
pub any_counts : {X : Type 0} (f : X → Bool) (xs : List X) → list_any f xs ≡ true
    → 0 < count_by f xs
any_counts f [] e = absurd (cc)
any_counts f (x ∷ xs) e =
    let r = any_step (f x) (list_any f xs) (count_by f xs) e (λ r. any_counts f xs r) in
    omega (arith, sum_by-cons (λ y. one_if (f y)) x xs)
