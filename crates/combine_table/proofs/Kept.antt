-- Parts of a bag that are kept when bags are added: its n greatest members, its least.
use Rattle.std.proofs.Common.{◌≡◌, ℕ, ◌-◌, ◌≤◌, Bool, true, false, cond, suc, ⊎_elim, List, [], ◌∷◌, ◌++◌, length, refl, sym, ap, ◌∙◌, drop, arith, append_assoc, length-drop}
use Rattle.std.specs.Ordering.{is_lt}
use Rattle.std.proofs.lemmas.Bool.{cases_lt}
use Rattle.std.proofs.lemmas.List.Sorted.{length_permutation}
use Rattle.flume_value.specs.declared.value.Value.{Value}
use Rattle.flume_value.specs.Order.{value_cmp}
use Rattle.flume_value.specs.Bag.{put, bag_of}
use Rattle.std.specs.List.{AllByRecursion as Each}
use Rattle.flume_value.proofs.EachLemmas.{Each-weaker}
use Rattle.flume_value.proofs.RisesLemmas.{Rises-take, Rises-drop}
use Rattle.flume_value.proofs.BagLemmas.{NotBelow, Rises, Rises-bag_of, sorted_from, bag_of-settled, bag_of-either_order, put-IsPermutation, NotBelow-trans}
use Rattle.combine_table.specs.Combinations.{least, greatest}

-- ---- whatever is kept of a bag

-- what is kept of a bag, where a value more needs no more of the bag than what was kept
pub record IsKept (kept : List Value → List Value) : Type 0 where
  pub put : (v : Value) (b : List Value) → Rises b → kept (put v b) ≡ kept (put v (kept b))
  pub rises : (b : List Value) → Rises b → Rises (kept b)
  pub twice : (b : List Value) → kept (kept b) ≡ kept b

module _ (kept : List Value → List Value) (k : IsKept kept) where
  kept-append_same : (xs ys zs : List Value) → kept (bag_of ys) ≡ kept (bag_of zs)
      → kept (bag_of (xs ++ ys)) ≡ kept (bag_of (xs ++ zs))
  kept-append_same [] ys zs e = e
  kept-append_same (x ∷ xs) ys zs e =
      k.put x (bag_of (xs ++ ys)) (Rises-bag_of (xs ++ ys))
      ∙ ap (λ b. kept (put x b)) (kept-append_same xs ys zs e)
      ∙ sym (k.put x (bag_of (xs ++ zs)) (Rises-bag_of (xs ++ zs)))

  -- what is kept is a bag
  pub bag_of-kept : (xs : List Value) → bag_of (kept (bag_of xs)) ≡ kept (bag_of xs)
  bag_of-kept xs = bag_of-settled (kept (bag_of xs))
      (sorted_from (kept (bag_of xs)) (k.rises (bag_of xs) (Rises-bag_of xs)))

  kept-append_right : (xs ys : List Value) → kept (bag_of (xs ++ kept (bag_of ys)))
      ≡ kept (bag_of (xs ++ ys))
  kept-append_right xs ys = kept-append_same xs (kept (bag_of ys)) ys
      (ap kept (bag_of-kept ys) ∙ k.twice (bag_of ys))

  kept-append_left : (xs ys : List Value) → kept (bag_of (kept (bag_of xs) ++ ys))
      ≡ kept (bag_of (xs ++ ys))
  kept-append_left xs ys =
      ap kept (bag_of-either_order ys (kept (bag_of xs))) ∙ kept-append_right ys xs
      ∙ ap kept (bag_of-either_order xs ys)

  pub kept-append : (xs ys : List Value) → kept (bag_of (kept (bag_of xs) ++ kept (bag_of ys)))
      ≡ kept (bag_of (xs ++ ys))
  kept-append xs ys = kept-append_left xs (kept (bag_of ys)) ∙ kept-append_right xs ys

  pub kept-assoc : (xs ys zs : List Value) → kept (bag_of (kept (bag_of (xs ++ ys)) ++ zs))
      ≡ kept (bag_of (xs ++ kept (bag_of (ys ++ zs))))
  kept-assoc xs ys zs = kept-append_left (xs ++ ys) zs
      ∙ ap (λ l. kept (bag_of l)) (append_assoc xs ys zs) ∙ sym (kept-append_right xs (ys ++ zs))

-- ---- the least

least-put : (v : Value) (b : List Value) → least 1 (put v b) ≡ least 1 (put v (least 1 b))
least-put v [] = refl
least-put v (x ∷ xs) =
    elim (is_lt (value_cmp x v)) as
    (λ t. least 1 (cond t (x ∷ put v xs) (v ∷ x ∷ xs))
    ≡ least 1 (cond t (x ∷ v ∷ []) (v ∷ x ∷ []))) [ true ↦ refl | false ↦ refl ]

least-twice : (b : List Value) → least 1 (least 1 b) ≡ least 1 b
least-twice [] = refl
least-twice (x ∷ xs) = refl

pub least-IsKept : IsKept (least 1)
least-IsKept = record { put = λ v b r. least-put v b; rises = Rises-take 1; twice = least-twice }

-- ---- the n greatest

-- a value that no member is below is put first
put-first : (v : Value) (b : List Value) → Each (NotBelow v) b → put v b ≡ v ∷ b
put-first v [] e = refl
put-first v (x ∷ xs) e = ap (λ t. cond t (x ∷ put v xs) (v ∷ x ∷ xs)) e.0

pub greatest-cons : (n : ℕ) (x : Value) (xs : List Value) → n ≤ length xs → greatest n (x ∷ xs)
    ≡ greatest n xs
greatest-cons n x xs h = let e : length (x ∷ xs) - n
    ≡ suc (length xs - n) = omega arith in ap (λ k. drop k (x ∷ xs)) e

pub greatest-all : (n : ℕ) (xs : List Value) → length xs ≤ n → greatest n xs ≡ xs
greatest-all n xs h = let e : length xs - n ≡ 0 = omega arith in ap (λ k. drop k xs) e

pub length-greatest : (n : ℕ) (b : List Value) → length (greatest n b) ≤ n
length-greatest n b = omega (arith, length-drop (length b - n) b)

greatest-twice : (n : ℕ) (b : List Value) → greatest n (greatest n b) ≡ greatest n b
greatest-twice n b = greatest-all n (greatest n b) (length-greatest n b)

-- the bag is no larger than what is kept
greatest-put_few : (n : ℕ) (v : Value) (b : List Value) → length b ≤ n → greatest n (put v b)
    ≡ greatest n (put v (greatest n b))
greatest-put_few n v b h = ap (λ c. greatest n (put v c)) (sym (greatest-all n b h))

greatest-put : (n : ℕ) (v : Value) (b : List Value) → Rises b → greatest n (put v b)
    ≡ greatest n (put v (greatest n b))
greatest-put n v [] r = greatest-put_few n v [] (omega arith)
greatest-put n v (x ∷ xs) r =
    ⊎_elim
    (λ few. greatest-put_few n v (x ∷ xs) (omega arith))
    (λ (many : n ≤ length xs).
    let ahead : (t : Bool) → is_lt (value_cmp x v) ≡ t
    → greatest n (cond t (x ∷ put v xs) (v ∷ x ∷ xs))
    ≡ greatest n (put v xs) = λ t e. elim t as
    (λ t. is_lt (value_cmp x v) ≡ t → greatest n (cond t (x ∷ put v xs) (v ∷ x ∷ xs))
    ≡ greatest n (put v xs)) [
      | true ↦ λ e. greatest-cons n x (put v xs)
          (omega (arith, length_permutation (v ∷ xs) (put v xs) (put-IsPermutation v xs)))
      | false ↦ λ e.
          greatest-cons n v (x ∷ xs) (omega arith) ∙ greatest-cons n x xs many
          ∙ sym (ap (greatest n) (put-first v xs
          (Each-weaker (NotBelow x) (NotBelow v) (λ y h. NotBelow-trans v x y e h) xs r.0))
          ∙ greatest-cons n v xs many)
    ] e in
    ahead (is_lt (value_cmp x v)) refl ∙ greatest-put n v xs r.1
    ∙ sym (ap (λ b. greatest n (put v b)) (greatest-cons n x xs many)))
    (cases_lt (length xs) n)

pub greatest-IsKept : (n : ℕ) → IsKept (greatest n)
greatest-IsKept n = record {
  put = greatest-put n;
  rises = λ b. Rises-drop (length b - n) b;
  twice =
      greatest-twice n;
}
