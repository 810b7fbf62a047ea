-- Outs in order of their tasks.
use Rattle.std.proofs.Common.{◌≡◌, ◌≢◌, ℕ, zero, suc, ◌+◌, ◌-◌, ◌<◌, ◌≤◌, true, false, eqb, ⊎_elim, List, [], ◌∷◌, get_or, length, refl, ap, arith}
use Rattle.std.specs.Prelude.{All, count_by}
use Rattle.std.specs.List.Sorted.{IsNonDecreasingBy}
use Rattle.std.proofs.lemmas.Bool.Decides.{eqb_tells}
use Rattle.std.proofs.lemmas.List.Elements.{All-head, All-tail, All-weaker}
use Rattle.std.proofs.lemmas.List.Sums.{sum_by-cons}
use native.Mathlib.Decide.{ℕ_discrete}
use mathlib.Core.Logic.{dite}
use Rattle.claim_board.specs.Counts.{one_if}
use Rattle.crew.specs.declared.kept.KeptOut.{KeptOut}
use Rattle.claim_board.proofs.Moves.{part}
use Rattle.crew.proofs.Lists.{all_both, all_zero, one_if_eq, one_if_ne}

module _ {O : Type 0} where
  -- how many of the outs are of the task
  abbrev pub outs_of : ℕ → List (KeptOut O) → ℕ
  outs_of t ks = count_by (λ k. eqb k.task t) ks

  pub outs_of-cons : (t : ℕ) (k : KeptOut O) (ks : List (KeptOut O))
      → outs_of t (k ∷ ks) ≡ one_if (eqb k.task t) + outs_of t ks
  outs_of-cons t k ks = sum_by-cons (λ (j : KeptOut O). one_if (eqb j.task t)) k ks

  task_of_test : (t : ℕ) (x : KeptOut O) → 0 < one_if (eqb x.task t) → x.task ≡ t
  task_of_test t x l =
      ⊎_elim (λ (u : (eqb x.task t ≡ true) × (x.task ≡ t)). u.1)
      (λ (u : (eqb x.task t ≡ false) × (x.task ≢ t)).
      let z : one_if (eqb x.task t) ≡ 0 = ap one_if u.0 in absurd (omega arith))
      (eqb_tells x.task t)

  head_or_tail : (lo : ℕ) (y : KeptOut O) (ys : List (KeptOut O)) (i : ℕ) (d : KeptOut O)
      → i < length (y ∷ ys) → y.task ≡ lo
      → ((j : ℕ) → j < length ys → (get_or ys j d).task ≡ suc lo + j)
      → (get_or (y ∷ ys) i d).task ≡ lo + i
  head_or_tail lo y ys zero d l is later = omega arith
  head_or_tail lo y ys (suc i) d l is later = let e = later i (omega arith) in omega arith

  in_order : (n lo : ℕ) (ys : List (KeptOut O)) → All (λ k. lo ≤ k.task) ys
      → All (λ k. k.task < n) ys → IsNonDecreasingBy (λ k. k.task) ys
      → ((t : ℕ) → lo ≤ t → t < n → outs_of t ys ≡ 1)
      → (i : ℕ) (d : KeptOut O) → i < length ys → (get_or ys i d).task ≡ lo + i
  in_order n lo [] low high rise one i d l = absurd (omega arith)
  in_order n lo (y ∷ ys) low high rise one i d l =
      let f : KeptOut O → ℕ = λ k. one_if (eqb k.task lo) in
      let Low : KeptOut O → Type 0 = λ k. lo ≤ k.task in
      let High : KeptOut O → Type 0 = λ k. k.task < n in
      let bottom = All-head Low y ys low in
      let top = All-head High y ys high in
      let now = one lo (omega arith) (omega arith) in
      let cut = outs_of-cons lo y ys in
      let Above : KeptOut O → Type 0 = λ k. y.task ≤ k.task in
      let above : All Above ys = λ j e m. rise 0 (suc j) e (omega arith) (omega arith) in
      let is : y.task ≡ lo =
      dite (ℕ_discrete y.task lo) (λ e. e)
      (λ away. let z : one_if (eqb y.task lo) ≡ 0 = one_if_ne y.task lo away in
      let x = part Above f ys above (omega arith) in
      let e = task_of_test lo x.0 x.2 in let m = x.1 in omega arith) in
      let first : one_if (eqb y.task lo) ≡ 1 = one_if_eq y.task lo is in
      let none = all_zero f ys (omega arith) in
      let Zero : KeptOut O → Type 0 = λ k. f k ≡ 0 in
      let up = All-weaker (λ k. Low k × Zero k) (λ k. suc lo ≤ k.task)
      (λ k t. let m = t.0 in
      dite (ℕ_discrete k.task lo)
      (λ e. let w : one_if (eqb k.task lo) ≡ 1 = one_if_eq k.task lo e in
      let z : one_if (eqb k.task lo) ≡ 0 = t.1 in absurd (omega arith))
      (λ away. omega arith))
      ys (all_both Low Zero ys (All-tail Low y ys low) none) in
      let later = in_order n (suc lo) ys up (All-tail High y ys high)
      (λ a b e m k. rise (suc a) (suc b) e (omega arith) (omega arith))
      (λ t m k. let o = one t (omega arith) k in
      let z : one_if (eqb y.task t) ≡ 0 = one_if_ne y.task t (λ e. absurd (omega arith)) in
      omega (arith, outs_of-cons t y ys)) in
      head_or_tail lo y ys i d l is (λ j m. later j d m)

  place : (t : ℕ) (xs : List (KeptOut O)) → 0 < outs_of t xs
      → (i : ℕ) × (i < length xs) × ((d : KeptOut O) → (get_or xs i d).task ≡ t)
  place t [] l = absurd (omega arith)
  place t (x ∷ xs) l =
      dite (ℕ_discrete x.task t)
      (λ e. (0, omega arith, λ d. e))
      (λ away. let z : one_if (eqb x.task t) ≡ 0 = one_if_ne x.task t away in
      let r = place t xs (omega (arith, outs_of-cons t x xs)) in
      let m = r.1 in (suc r.0, omega arith, λ d. r.2 d))

  some_element : (xs : List (KeptOut O)) → 0 < length xs → KeptOut O
  some_element [] l = absurd (omega arith)
  some_element (x ∷ xs) l = x

  whole : (n : ℕ) (xs : List (KeptOut O)) → All (λ k. k.task < n) xs
      → ((t : ℕ) → t < n → outs_of t xs ≡ 1)
      → ((i : ℕ) (d : KeptOut O) → i < length xs → (get_or xs i d).task ≡ 0 + i) → length xs ≡ n
  whole zero [] high one all = refl
  whole zero (x ∷ xs) high one all =
      let h = All-head (λ (k : KeptOut O). k.task < 0) x xs high in absurd (omega arith)
  whole (suc n) xs high one all =
      let o = one n (omega arith) in
      let r = place n xs (omega arith) in
      let inside = r.1 in
      let d : KeptOut O = some_element xs (omega arith) in
      let e = r.2 d in
      let at = all r.0 d r.1 in
      let last : length xs - 1 < length xs = omega arith in
      let top = high (length xs - 1) d last in
      let is = all (length xs - 1) d last in omega arith

  -- a list in which each number below n is the task of one element, in order, is indexed by task
  pub indexed : (n : ℕ) (ys : List (KeptOut O)) → All (λ k. k.task < n) ys
      → IsNonDecreasingBy (λ k. k.task) ys → ((t : ℕ) → t < n → outs_of t ys ≡ 1)
      → (length ys ≡ n) × ((t : ℕ) (d : KeptOut O) → t < n → (get_or ys t d).task ≡ t)
  indexed n ys high rise one =
      let all = λ (i : ℕ) (d : KeptOut O) (l : i < length ys).
      in_order n 0 ys (λ j e m. omega arith) high rise (λ t _ m. one t m) i d l in
      let size = whole n ys high one all in
      (size, λ t d l. let e = all t d (omega arith) in omega arith)
