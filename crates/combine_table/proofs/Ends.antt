-- The least and the greatest of a list's values are the ends of its bag.
use Rattle.std.proofs.Common.{◌≡◌, ℕ, ◌<◌, false, List, [], ◌∷◌, length, get_or, Option, None, Some, refl, sym, ap, ◌∙◌, subst, zero, suc, arith}
use Rattle.std.specs.Prelude.{MatchOption, All, Contains}
use Rattle.std.specs.Option.{option_copied, option_to_list}
use Rattle.std.specs.Ordering.{is_lt, is_gt, ordering_reverse}
use Rattle.std.specs.declared.cmp.Ordering.TheVariants.{Less, Equal, Greater}
use Rattle.std.specs.Borrow.{Bor}
use Rattle.std.proofs.lemmas.List.Elements.{All-weaker}
use Rattle.std.proofs.lemmas.List.Sorted.{All-permutation, Contains-permutation}
use Rattle.std.specs.List.{AllByRecursion as Each}
use Rattle.flume_value.specs.declared.value.Value.{Value}
use Rattle.flume_value.specs.Order.{value_cmp}
use Rattle.flume_value.specs.Bag.{bag_of}
use Rattle.flume_value.proofs.OrderLemmas.{value_cmp-total}
use Rattle.flume_value.proofs.EachLemmas.{each_from}
use Rattle.flume_value.proofs.BagLemmas.{NotBelow, Rises, apart, Rises-bag_of, IsPermutation-bag_of}
use Rattle.combine_table.specs.Combinations.{least, greatest}
use Rattle.combine_table.proofs.Kept.{greatest-cons}
use Rattle.combine_table.proofs.Popped.{UpTo}

Each-get_or : (P : Value → Type 0) (xs : List Value) (k : ℕ) (d : Value) → Each P xs → k < length xs
    → P (get_or xs k d)
Each-get_or P [] k d e h = absurd (omega arith)
Each-get_or P (x ∷ xs) zero d e h = e.0
Each-get_or P (x ∷ xs) (suc k) d e h = Each-get_or P xs k d e.1 (omega arith)

least_end : (b : List Value) (m : Value) (k : ℕ) → Rises b → k < length b → get_or b k m ≡ m
    → Each (NotBelow m) b → m ∷ [] ≡ least 1 b
least_end [] m k r within at e = absurd (omega arith)
least_end (x ∷ xs) m zero r within at e = ap (λ v. v ∷ []) (sym at)
least_end (x ∷ xs) m (suc k) r within at e =
    ap (λ v. v ∷ []) (apart m x e.0
    (subst (NotBelow x) at (Each-get_or (NotBelow x) xs k m r.0 (omega arith))))

greatest_end : (b : List Value) (m : Value) (k : ℕ) → Rises b → k < length b → get_or b k m ≡ m
    → UpTo m b → m ∷ [] ≡ greatest 1 b
greatest_end [] m k r within at e = absurd (omega arith)
greatest_end (x ∷ []) m zero r within at e = ap (λ v. v ∷ []) (sym at)
greatest_end (x ∷ []) m (suc k) r within at e = absurd (omega arith)
greatest_end (x ∷ y ∷ ys) m zero r within at e =
    let tie : y ≡ m = apart y m e.1.0 (subst (λ v. NotBelow v y) at r.0.0) in
    greatest_end (y ∷ ys) m zero r.1 (omega arith) tie e.1
    ∙ sym (greatest-cons 1 x (y ∷ ys) (omega arith))
greatest_end (x ∷ y ∷ ys) m (suc k) r within at e =
    greatest_end (y ∷ ys) m k r.1 (omega arith) at e.1
    ∙ sym (greatest-cons 1 x (y ∷ ys) (omega arith))

module _ (xs : List Value) (m : Value) (among : Contains xs m) where
  pub least_found : All (λ v. is_lt (value_cmp v m) ≡ false) xs → m ∷ [] ≡ least 1 (bag_of xs)
  least_found all =
      let there = Contains-permutation xs (bag_of xs) m (IsPermutation-bag_of xs) among in
      least_end (bag_of xs) m there.0 (Rises-bag_of xs) there.1 there.2
      (each_from (NotBelow m) (bag_of xs)
      (All-permutation (NotBelow m) xs (bag_of xs) (IsPermutation-bag_of xs) all))

  pub greatest_found : All (λ v. is_lt (value_cmp m v) ≡ false) xs → m ∷ [] ≡ greatest 1 (bag_of xs)
  greatest_found all =
      let there = Contains-permutation xs (bag_of xs) m (IsPermutation-bag_of xs) among in
      greatest_end (bag_of xs) m there.0 (Rises-bag_of xs) there.1 there.2
      (each_from (λ v. NotBelow v m) (bag_of xs)
      (All-permutation (λ v. NotBelow v m) xs (bag_of xs) (IsPermutation-bag_of xs) all))

no_members : (xs : List Value) → length xs ≡ 0 → xs ≡ []
no_members [] h = refl
no_members (x ∷ xs) h = absurd (omega arith)

pub least_is : (r : Option (Bor Value)) (xs : List Value)
    → MatchOption r (length xs ≡ 0)
    (λ m. Contains xs m.now × All (λ v. is_lt (value_cmp v m.now) ≡ false) xs)
    → option_to_list (option_copied r) ≡ least 1 (bag_of xs)
least_is None xs h = sym (ap (λ l. least 1 (bag_of l)) (no_members xs h))
least_is (Some m) xs h = least_found xs m.now h.0 h.1

not_below : (m v : Value) → is_gt (value_cmp v m) ≡ false → NotBelow v m
not_below m v h =
    elim (value_cmp v m) as (λ o. value_cmp v m ≡ o → is_gt o ≡ false → NotBelow v m) [
      | Less ↦ λ p q. ap is_lt (value_cmp-total.antisymm m v ∙ ap ordering_reverse p)
      | Equal ↦ λ p q. ap is_lt (value_cmp-total.antisymm m v ∙ ap ordering_reverse p)
      | Greater ↦ λ p q. cc
    ] refl h

pub greatest_is : (r : Option (Bor Value)) (xs : List Value)
    → MatchOption r (length xs ≡ 0)
    (λ m. Contains xs m.now × All (λ v. is_gt (value_cmp v m.now) ≡ false) xs)
    → option_to_list (option_copied r) ≡ greatest 1 (bag_of xs)
greatest_is None xs h = sym (ap (λ l. greatest 1 (bag_of l)) (no_members xs h))
greatest_is (Some m) xs h = greatest_found xs m.now h.0
    (All-weaker (λ v. is_gt (value_cmp v m.now) ≡ false) (λ v. NotBelow v m.now) (not_below m.now)
    xs h.1)
