-- What is computed of a bag's members one by one, in any order.
use Rattle.std.proofs.Common.{◌≡◌, ◌<◌, ◌+◌, ◌%◌, ◌^◌, take, get_or, ℕ, ℤ, ◌+ℤ◌, Bool, true, false, cond, ◌&&◌, ◌||◌, List, [], ◌∷◌, ◌++◌, length, refl, sym, ap, ◌∙◌}
use Rattle.std.specs.Ordering.{is_lt}
use Rattle.std.specs.List.{list_all, list_any}
use Rattle.std.proofs.Math.IntN.{+ℤ_assoc, +ℤ_comm, +ℤ_idl, +ℤ_idr}
use Rattle.std.specs.Int.{w128, cast_signed, cast_unsigned}
use Rattle.std.specs.Int.RustNames.{FitsSigned}
use mir.Val.{bits}
use Rattle.std.proofs.lemmas.Int.{wrapping_add_onto, int_wrap-add_left}
use Rattle.std.proofs.lemmas.List.{take_more}
use Rattle.flume_value.specs.declared.value.Value.{Value}
use Rattle.flume_value.specs.Order.{value_cmp}
use Rattle.flume_value.specs.Bag.{put, bag_of}
use Rattle.flume_value.proofs.BagLemmas.{length-bag_of}
use Rattle.combine_table.specs.Contents.{int_or_zero}
use Rattle.combine_table.specs.Combinations.{int_total, wrapped}

-- F takes in one member after the other, in any order
module _ (X : Type 0) (F : List Value → X) (step : Value → X → X)
    (cons : (v : Value) (vs : List Value) → F (v ∷ vs) ≡ step v (F vs))
    (swap : (v w : Value) (x : X) → step v (step w x) ≡ step w (step v x)) where
  of_put : (v : Value) (b : List Value) → F (put v b) ≡ step v (F b)
  of_put v [] = cons v []
  of_put v (x ∷ xs) =
      elim (is_lt (value_cmp x v)) as
      (λ t. F (cond t (x ∷ put v xs) (v ∷ x ∷ xs)) ≡ step v (F (x ∷ xs))) [
        | true ↦ cons x (put v xs) ∙ ap (step x) (of_put v xs) ∙ swap x v (F xs)
            ∙ ap (step v) (sym (cons x xs))
        | false ↦ cons v (x ∷ xs)
      ]

  of_bag_of : (xs : List Value) → F (bag_of xs) ≡ F xs
  of_bag_of [] = refl
  of_bag_of (x ∷ xs) = of_put x (bag_of xs) ∙ ap (step x) (of_bag_of xs) ∙ sym (cons x xs)

add_swap : (m n x : ℤ) → m +ℤ (n +ℤ x) ≡ n +ℤ (m +ℤ x)
add_swap m n x = sym (+ℤ_assoc m n x) ∙ ap (λ k. k +ℤ x) (+ℤ_comm m n) ∙ +ℤ_assoc n m x

and_swap : (a b c : Bool) → (a && (b && c)) ≡ (b && (a && c))
and_swap true b c = refl
and_swap false true c = refl
and_swap false false c = refl

or_swap : (a b c : Bool) → (a || (b || c)) ≡ (b || (a || c))
or_swap false b c = refl
or_swap true true c = refl
or_swap true false c = refl

pub total-bag_of : (xs : List Value) → int_total (bag_of xs) ≡ int_total xs
total-bag_of =
    of_bag_of ℤ int_total (λ v n. int_or_zero v +ℤ n) (λ v vs. refl)
    (λ v w n. add_swap (int_or_zero v) (int_or_zero w) n)

pub list_all-bag_of : (p : Value → Bool) (xs : List Value) → list_all p (bag_of xs) ≡ list_all p xs
list_all-bag_of p =
    of_bag_of Bool (list_all p) (λ v b. p v && b) (λ v vs. refl) (λ v w b. and_swap (p v) (p w) b)

pub list_any-bag_of : (p : Value → Bool) (xs : List Value) → list_any p (bag_of xs) ≡ list_any p xs
list_any-bag_of p =
    of_bag_of Bool (list_any p) (λ v b. p v || b) (λ v vs. refl) (λ v w b. or_swap (p v) (p w) b)

pub total-append : (xs ys : List Value) → int_total (xs ++ ys) ≡ int_total xs +ℤ int_total ys
total-append [] ys = sym (+ℤ_idl (int_total ys))
total-append (x ∷ xs) ys = ap (λ n. int_or_zero x +ℤ n) (total-append xs ys)
    ∙ sym (+ℤ_assoc (int_or_zero x) (int_total xs) (int_total ys))

total_more : (xs : List Value) (i : ℕ) (d : Value) → i < length xs
    → int_total (take (i + 1) xs) ≡ int_total (take i xs) +ℤ int_or_zero (get_or xs i d)
total_more xs i d h =
    ap int_total (take_more xs i d h) ∙ total-append (take i xs) (get_or xs i d ∷ [])
    ∙ ap (λ n. int_total (take i xs) +ℤ n) (+ℤ_idr (int_or_zero (get_or xs i d)))

-- a loop's step: m are the bits of the sum so far
pub wrapped-total_more : (xs : List Value) (i : ℕ) (v : Value) (m : ℕ) (n : ℤ) → i < length xs
    → v ≡ get_or xs i v → m < 2 ^ bits w128 → FitsSigned w128 n → n ≡ int_or_zero v
    → cast_signed w128 m ≡ wrapped (int_total (take i xs))
    → cast_signed w128 ((m + cast_unsigned w128 n) % 2 ^ bits w128) ≡ wrapped
    (int_total (take (i + 1) xs))
wrapped-total_more xs i v m n within is m_fits n_fits value so_far =
    wrapping_add_onto w128 m n m_fits n_fits
    ∙ ap (λ k. wrapped (k +ℤ n)) so_far
    ∙ int_wrap-add_left w128 (int_total (take i xs)) n
    ∙ ap wrapped
    (ap (λ k. int_total (take i xs) +ℤ k) (value ∙ ap int_or_zero is)
    ∙ sym (total_more xs i v within))

pub ruleset bags = (total-bag_of, list_all-bag_of, list_any-bag_of, length-bag_of)
