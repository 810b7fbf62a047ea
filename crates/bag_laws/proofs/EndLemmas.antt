-- The first and the last of a bag's list are its least and its greatest members.
use Rattle.std.proofs.Common.{◌≡◌, ℕ, zero, suc, ◌-◌, ◌<◌, ◌≤◌, Bool, true, false, List, [], ◌∷◌, ◌++◌, length, take, drop, refl, sym, ap, ◌∙◌, subst, ⊎_elim, arith, append-nil, length-append, length-drop}
use Rattle.std.proofs.lemmas.Bool.{cases_lt}
use Rattle.std.proofs.lemmas.List.{take_all, take-append-drop}
use Rattle.std.proofs.Math.Seq.{drop-append_seam, take-append_seam}
use Rattle.std.proofs.lemmas.List.Elements.{All-from_recursion}
use Rattle.std.proofs.lemmas.List.Kept.{Contains-dedup, Contains-from_dedup}
use Rattle.std.proofs.lemmas.List.Sorted.{Contains-permutation, IsPermutation-sym}
use Rattle.std.specs.Prelude.{Ok, pos}
use Rattle.std.specs.Cmp.{IsEquivalence}
use Rattle.std.specs.List.{All, AllByRecursion as Each}
use Rattle.std.specs.List.Sorted.{IsSorted}
use Rattle.flume_value.specs.declared.value.Value.{Value}
use Rattle.flume_value.specs.declared.value.Value.TheVariants as value
use Rattle.flume_value.specs.Bag.{bag_of}
use Rattle.flume_value.specs.Equality.{value_eq}
use Rattle.flume_value.specs.Order.{value_cmp}
use Rattle.flume_value.proofs.BagLemmas.{NotBelow, Rises, Each-bag_of, IsPermutation-bag_of, Rises-bag_of, bag_of-either_order, bag_of-settled, bag_of-sum, bag_of-twice, length-bag_of, rises_from, sorted_from}
use Rattle.flume_value.proofs.EachLemmas.{Each-append, Each-drop, Each-weaker, each_from}
use Rattle.flume_value.proofs.OrderLemmas.{value_eq-exact}
use Rattle.flume_value.proofs.RisesLemmas.{Rises-drop, Rises-take}
use Rattle.combine_table.specs.declared.comb.Comb.{Comb}
use Rattle.combine_table.specs.declared.comb.Comb.TheVariants as by
use Rattle.combine_table.specs.Combinations.{combined, distinct, first_or_bad_index, greatest, int_or_overflow, least, mean, wrapped}
use Rattle.combine_table.specs.Contents.{truth_of}
use Rattle.combine_table.proofs.Ends.{greatest_found, least_found}
use Rattle.combine_table.proofs.Kept.{greatest-all, length-greatest}
use Rattle.combine_table.proofs.Repeats.{distinct-ascends}
use Rattle.combine_table.proofs.Totals.{list_all-bag_of, list_any-bag_of, total-bag_of}
use Rattle.bag_laws.specs.Members.{AddsUp, AreBelow, AreDistinct, AreGreatest, AreLeast, IsGreatestOf, IsLeastOf}

-- ---- a list that rises, cut in two

taken_few : (n : ℕ) (xs : List Value) → length (take n xs) ≤ n
taken_few zero xs = omega arith
taken_few (suc n) [] = omega arith
taken_few (suc n) (x ∷ xs) = let few = taken_few n xs in omega arith

none_behind : (n : ℕ) (xs : List Value) → length (take n xs) < n → drop n xs ≡ []
none_behind zero xs h = absurd (omega arith)
none_behind (suc n) [] h = refl
none_behind (suc n) (x ∷ xs) h = none_behind n xs (omega arith)

cut_below : (n : ℕ) (xs : List Value) → Rises xs
    → Each (λ v. Each (NotBelow v) (drop n xs)) (take n xs)
cut_below zero xs r = tt
cut_below (suc n) [] r = tt
cut_below (suc n) (x ∷ xs) r = (Each-drop (NotBelow x) n xs r.0, cut_below n xs r.1)

all_below : (lower upper : List Value) → Each (λ v. Each (NotBelow v) upper) lower
    → AreBelow lower upper
all_below lower upper each =
    All-from_recursion (λ v. All (NotBelow v) upper) lower
    (Each-weaker (λ v. Each (NotBelow v) upper) (λ v. All (NotBelow v) upper)
    (λ v e. All-from_recursion (NotBelow v) upper e) lower each)

each_below : (lower upper : List Value) → AreBelow lower upper
    → Each (λ v. Each (NotBelow v) upper) lower
each_below lower upper all =
    Each-weaker (λ v. All (NotBelow v) upper) (λ v. Each (NotBelow v) upper)
    (λ v e. each_from (NotBelow v) upper e) lower
    (each_from (λ v. All (NotBelow v) upper) lower all)

-- ---- the ends are the least and the greatest

pub least_are : (n : ℕ) (values : List Value) → AreLeast n values (least n (bag_of values))
least_are n values =
    let b : List Value = bag_of values in
    record {
      others = drop n b;
      are = record {
        all = ap bag_of (take-append-drop n b) ∙ bag_of-twice values;
        ascending = sorted_from (take n b) (Rises-take n b (Rises-bag_of values));
        most = taken_few n b;
        none_left = none_behind n b;
      };
      below = all_below (take n b) (drop n b) (cut_below n b (Rises-bag_of values));
    }

none_before : (l n k d : ℕ) → k ≡ l - n → d ≡ l - k → d < n → k ≡ 0
none_before l n k d is kept fewer = omega arith

pub greatest_are : (n : ℕ) (values : List Value)
    → AreGreatest n values (greatest n (bag_of values))
greatest_are n values =
    let b : List Value = bag_of values in
    let k : ℕ = length b - n in
    record {
      others = take k b;
      are = record {
        all = bag_of-either_order (take k b) (drop k b) ∙ ap bag_of (take-append-drop k b)
            ∙ bag_of-twice values;
        ascending = sorted_from (drop k b) (Rises-drop k b (Rises-bag_of values));
        most = length-greatest n b;
        none_left = λ fewer.
            ap (λ i. take i b)
            (none_before (length b) n k (length (drop k b)) refl (length-drop k b) fewer);
      };
      above = all_below (take k b) (drop k b) (cut_below k b (Rises-bag_of values));
    }

-- ---- and nothing else is

rises_append : (xs ys : List Value) → Rises xs → Rises ys → Each (λ v. Each (NotBelow v) ys) xs
    → Rises (xs ++ ys)
rises_append [] ys r s e = s
rises_append (x ∷ xs) ys r s e =
    (Each-append (NotBelow x) xs ys r.0 e.0, rises_append xs ys r.1 s e.1)

-- what is below all others stands before them
put_before : (kept others : List Value) → IsSorted value_cmp kept → AreBelow kept others
    → bag_of (kept ++ others) ≡ kept ++ bag_of others
put_before kept others up below =
    let each = Each-weaker (λ v. Each (NotBelow v) others)
    (λ v. Each (NotBelow v) (bag_of others))
    (λ v e. Each-bag_of (NotBelow v) others e) kept (each_below kept others below) in
    sym (bag_of-sum kept others)
    ∙ ap (λ l. bag_of (l ++ bag_of others)) (bag_of-settled kept up)
    ∙ bag_of-settled (kept ++ bag_of others)
    (sorted_from (kept ++ bag_of others)
    (rises_append kept (bag_of others) (rises_from kept up) (Rises-bag_of others) each))

-- what is above all others stands behind them
put_behind : (kept others : List Value) → IsSorted value_cmp kept → AreBelow others kept
    → bag_of (kept ++ others) ≡ bag_of others ++ kept
put_behind kept others up above =
    bag_of-either_order others kept
    ∙ sym (bag_of-sum others kept)
    ∙ ap (λ l. bag_of (bag_of others ++ l)) (bag_of-settled kept up)
    ∙ bag_of-settled (bag_of others ++ kept)
    (sorted_from (bag_of others ++ kept)
    (rises_append (bag_of others) kept (Rises-bag_of others) (rises_from kept up)
    (Each-bag_of (λ v. Each (NotBelow v) kept) others (each_below others kept above))))

first_taken : (n : ℕ) (kept others : List Value) → length kept ≤ n
    → (length kept < n → others ≡ []) → take n (kept ++ bag_of others) ≡ kept
first_taken n kept others most none =
    ⊎_elim
    (λ (few : length kept < n).
    ap (λ l. take n (kept ++ bag_of l)) (none few) ∙ ap (take n) (append-nil kept)
    ∙ take_all n kept most)
    (λ (many : n ≤ length kept).
    let same : length kept ≡ n = omega arith in
    subst (λ m. take m (kept ++ bag_of others) ≡ kept) same
    (take-append_seam kept (bag_of others)))
    (cases_lt (length kept) n)

last_dropped : (n : ℕ) (kept others : List Value) → length kept ≤ n
    → (length kept < n → others ≡ []) → greatest n (bag_of others ++ kept) ≡ kept
last_dropped n kept others most none =
    ⊎_elim
    (λ (few : length kept < n).
    ap (λ l. greatest n (bag_of l ++ kept)) (none few) ∙ greatest-all n kept most)
    (λ (many : n ≤ length kept).
    let front : length (bag_of others ++ kept) - n ≡ length (bag_of others) =
    omega (arith, length-append (bag_of others) kept) in
    ap (λ i. drop i (bag_of others ++ kept)) front ∙ drop-append_seam (bag_of others) kept)
    (cases_lt (length kept) n)

pub only_least : (n : ℕ) (values kept : List Value) → AreLeast n values kept
    → kept ≡ least n (bag_of values)
only_least n values kept it =
    sym (ap (take n) (sym it.are.all ∙ put_before kept it.others it.are.ascending it.below)
    ∙ first_taken n kept it.others it.are.most it.are.none_left)

pub only_greatest : (n : ℕ) (values kept : List Value) → AreGreatest n values kept
    → kept ≡ greatest n (bag_of values)
only_greatest n values kept it =
    sym (ap (greatest n) (sym it.are.all ∙ put_behind kept it.others it.are.ascending it.above)
    ∙ last_dropped n kept it.others it.are.most it.are.none_left)

-- ---- distinct members

same_truth : (a b : Bool) → (a ≡ true → b ≡ true) → (b ≡ true → a ≡ true) → a ≡ b
same_truth true b there back = sym (there refl)
same_truth false true there back = back refl
same_truth false false there back = refl

eq_turned : (x y : Value) → value_eq x y ≡ true → value_eq y x ≡ true
eq_turned x y is = (value_eq-exact y x).1 (sym ((value_eq-exact x y).0 is))

equal : IsEquivalence value_eq
equal = record {
  refl = λ x. (value_eq-exact x x).1 refl;
  symm = λ x y. same_truth (value_eq x y) (value_eq y x) (eq_turned x y) (eq_turned y x);
  congr = λ x y z is. ap (λ v. value_eq v z) ((value_eq-exact x y).0 is);
}

pub distinct_are : (values : List Value) → AreDistinct values (distinct (bag_of values))
distinct_are values =
    let b : List Value = bag_of values in
    let moved = IsPermutation-bag_of values in
    record {
      ascending = distinct-ascends values;
      same = λ v. (
        λ h. Contains-permutation b values v (IsPermutation-sym values b moved)
            (Contains-from_dedup value_eq b v h),
        λ h. Contains-dedup equal (λ x y is. (value_eq-exact x y).0 is) b v
            (Contains-permutation values b v moved h),
      );
    }

-- ---- combinations

pub adds : (c : Comb) (xs : List Value) → AddsUp c → combined c (bag_of xs) ≡ combined c xs
adds by.Sum xs h = ap (λ n. int_or_overflow (wrapped n)) (total-bag_of xs)
adds by.Count xs h = ap (λ n. int_or_overflow (wrapped (pos n))) (length-bag_of xs)
adds by.Min xs h = absurd h
adds by.Max xs h = absurd h
adds by.All xs h = ap (λ b. Ok (value.Bool b)) (list_all-bag_of truth_of xs)
adds by.Any xs h = ap (λ b. Ok (value.Bool b)) (list_any-bag_of truth_of xs)
adds (by.Top n) xs h = absurd h
adds by.Mean xs h =
    (λ i. mean (wrapped (total-bag_of xs i)) (wrapped (pos (length-bag_of xs i))))
adds by.Distinct xs h = absurd h

pub min_is : (xs : List Value) (v : Value) → IsLeastOf xs v → combined by.Min (bag_of xs) ≡ Ok v
min_is xs v it = ap first_or_bad_index (sym (least_found xs v it.0 it.1))

pub max_is : (xs : List Value) (v : Value) → IsGreatestOf xs v
    → combined by.Max (bag_of xs) ≡ Ok v
max_is xs v it = ap first_or_bad_index (sym (greatest_found xs v it.0 it.1))

pub top_is : (n : ℕ) (xs kept : List Value) → AreGreatest n xs kept
    → combined (by.Top n) (bag_of xs) ≡ Ok (value.List kept)
top_is n xs kept it = ap (λ l. Ok (value.List l)) (sym (only_greatest n xs kept it))
