-- Accumulators of parts, merged and finished.
use Rattle.std.proofs.Common.{◌≡◌, ℤ, pos, ◌+◌, ◌+ℤ◌, Bool, false, ◌&&◌, ◌||◌, List, [], ◌∷◌, ◌++◌, length, unwrap_or, refl, sym, ap, ◌∙◌, arith, length-append}
use Rattle.std.specs.Int.{w128}
use Rattle.std.specs.List.{list_all, list_any}
use Rattle.std.proofs.lemmas.Int.{int_wrap-add_left, int_wrap-add_right}
use Rattle.std.proofs.lemmas.List.Folds.{list_all-append, list_any-append}
use Rattle.flume_value.specs.declared.value.Value.{Value, Value-F}
use Rattle.flume_value.specs.declared.value.Value.TheVariants as value
use Rattle.flume_value.specs.Bag.{bag_of}
use Rattle.flume_value.specs.Parts.{int_layer, bool_layer, wide_layer, list_layer, record_layer, members_or_none}
use Rattle.flume_value.proofs.BagLemmas.{length-bag_of}
use Rattle.combine_table.specs.declared.comb.Comb.{Comb}
use Rattle.combine_table.specs.declared.comb.Comb.TheVariants as by
use Rattle.combine_table.specs.Contents.{int_or_zero, truth_of, wide_or_zero, first_wide, second_wide, sum_in, count_in}
use Rattle.combine_table.specs.Combinations.{int_total, wrapped, least, greatest, combined, int_or_overflow, first_or_bad_index, mean, distinct}
use Rattle.combine_table.specs.Accumulators.{sum_and_count, accumulator, merged, finished}
use Rattle.combine_table.proofs.Kept.{IsKept, kept-append, least-IsKept, greatest-IsKept}
use Rattle.combine_table.proofs.Repeats.{distinct-IsKept}
use Rattle.combine_table.proofs.Totals.{total-bag_of, list_all-bag_of, list_any-bag_of, total-append}

-- ---- what a value of a variant holds

abbrev pub int_at : Value-F Value → ℤ
int_at x = unwrap_or (int_layer x) (pos 0)

abbrev pub bool_at : Value-F Value → Bool
bool_at x = unwrap_or (bool_layer x) false

abbrev pub wide_at : Value-F Value → ℤ
wide_at x = unwrap_or (wide_layer x) (pos 0)

abbrev pub list_at : Value-F Value → List Value
list_at x = unwrap_or (list_layer x) []

pub int_or_zero-Int : (n : ℤ) → int_or_zero (value.Int n) ≡ n
int_or_zero-Int n = ap int_at (value.outs-Int n)

pub truth_of-Bool : (b : Bool) → truth_of (value.Bool b) ≡ b
truth_of-Bool b = ap bool_at (value.outs-Bool b)

pub wide_or_zero-Wide : (n : ℤ) → wide_or_zero (value.Wide n) ≡ n
wide_or_zero-Wide n = ap wide_at (value.outs-Wide n)

pub members_or_none-List : (xs : List Value) → members_or_none (value.List xs) ≡ xs
members_or_none-List xs = ap list_at (value.outs-List xs)

abbrev pub fields_at : Value-F Value → List Value
fields_at x = unwrap_or (record_layer x) []

pub sum_in-both : (s c : ℤ) → sum_in (sum_and_count s c) ≡ s
sum_in-both s c =
    ap (λ (x : Value-F Value). first_wide (fields_at x))
    (value.outs-Rec (value.Wide s ∷ value.Wide c ∷ []))
    ∙ wide_or_zero-Wide s

pub count_in-both : (s c : ℤ) → count_in (sum_and_count s c) ≡ c
count_in-both s c =
    ap (λ (x : Value-F Value). second_wide (fields_at x))
    (value.outs-Rec (value.Wide s ∷ value.Wide c ∷ []))
    ∙ wide_or_zero-Wide c

-- ---- finish

pub finished-accumulator : (c : Comb) (b : List Value) → finished c (accumulator c b) ≡ combined c b
finished-accumulator by.Sum b = ap int_or_overflow (wide_or_zero-Wide (wrapped (int_total b)))
finished-accumulator by.Count b = ap int_or_overflow (wide_or_zero-Wide (wrapped (pos (length b))))
finished-accumulator by.Min b = ap first_or_bad_index (members_or_none-List (least 1 b))
finished-accumulator by.Max b = ap first_or_bad_index (members_or_none-List (greatest 1 b))
finished-accumulator by.All b = refl
finished-accumulator by.Any b = refl
finished-accumulator (by.Top n) b = refl
finished-accumulator by.Mean b =
    ap (λ (n : ℤ). mean n (count_in (accumulator by.Mean b)))
    (sum_in-both (wrapped (int_total b)) (wrapped (pos (length b))))
    ∙ ap (mean (wrapped (int_total b))) (count_in-both (wrapped (int_total b))
    (wrapped (pos (length b))))
finished-accumulator by.Distinct b = refl

-- ---- merge

wide : (m n k : ℤ) → wrapped (m +ℤ n) ≡ k
    → value.Wide
    (wrapped (wide_or_zero (value.Wide (wrapped m)) +ℤ wide_or_zero (value.Wide (wrapped n))))
    ≡ value.Wide k
wide m n k e =
    ap (λ (x : ℤ). value.Wide (wrapped (x +ℤ wide_or_zero (value.Wide (wrapped n)))))
    (wide_or_zero-Wide (wrapped m))
    ∙ ap (λ (x : ℤ). value.Wide (wrapped (wrapped m +ℤ x))) (wide_or_zero-Wide (wrapped n))
    ∙ ap value.Wide (int_wrap-add_left w128 m (wrapped n) ∙ int_wrap-add_right w128 m n ∙ e)

total_of_both : (xs ys : List Value)
    → int_total (bag_of xs) +ℤ int_total (bag_of ys) ≡ int_total (bag_of (xs ++ ys))
total_of_both xs ys =
    ap (λ n. n +ℤ int_total (bag_of ys)) (total-bag_of xs)
    ∙ ap (λ n. int_total xs +ℤ n) (total-bag_of ys) ∙ sym (total-append xs ys)
    ∙ sym (total-bag_of (xs ++ ys))

length_of_both : (xs ys : List Value)
    → length (bag_of xs) + length (bag_of ys) ≡ length (bag_of (xs ++ ys))
length_of_both xs ys =
    omega (
      arith,
      length-bag_of xs,
      length-bag_of ys,
      length-bag_of (xs ++ ys),
      length-append xs ys,
    )

-- the sums and the counts of two parts, added
sums_added : (m n : ℤ) (xs ys : List Value) → m ≡ wrapped (int_total (bag_of xs))
    → n ≡ wrapped (int_total (bag_of ys))
    → wrapped (m +ℤ n) ≡ wrapped (int_total (bag_of (xs ++ ys)))
sums_added m n xs ys left right =
    ap (λ (k : ℤ). wrapped (k +ℤ n)) left
    ∙ ap (λ (k : ℤ). wrapped (wrapped (int_total (bag_of xs)) +ℤ k)) right
    ∙ int_wrap-add_left w128 (int_total (bag_of xs)) (wrapped (int_total (bag_of ys)))
    ∙ int_wrap-add_right w128 (int_total (bag_of xs)) (int_total (bag_of ys))
    ∙ ap wrapped (total_of_both xs ys)

counts_added : (m n : ℤ) (xs ys : List Value) → m ≡ wrapped (pos (length (bag_of xs)))
    → n ≡ wrapped (pos (length (bag_of ys)))
    → wrapped (m +ℤ n) ≡ wrapped (pos (length (bag_of (xs ++ ys))))
counts_added m n xs ys left right =
    ap (λ (k : ℤ). wrapped (k +ℤ n)) left
    ∙ ap (λ (k : ℤ). wrapped (wrapped (pos (length (bag_of xs))) +ℤ k)) right
    ∙ int_wrap-add_left w128 (pos (length (bag_of xs))) (wrapped (pos (length (bag_of ys))))
    ∙ int_wrap-add_right w128 (pos (length (bag_of xs))) (pos (length (bag_of ys)))
    ∙ ap (λ n. wrapped (pos n)) (length_of_both xs ys)

means_merged : (xs ys : List Value)
    → merged by.Mean (accumulator by.Mean (bag_of xs)) (accumulator by.Mean (bag_of ys))
    ≡ accumulator by.Mean (bag_of (xs ++ ys))
means_merged xs ys =
    let m = wrapped (int_total (bag_of xs)) in let n = wrapped (int_total (bag_of ys)) in
    let j = wrapped (pos (length (bag_of xs))) in let k = wrapped (pos (length (bag_of ys))) in
    ap (λ (s : ℤ). sum_and_count s
    (wrapped (count_in (sum_and_count m j) +ℤ count_in (sum_and_count n k))))
    (sums_added (sum_in (sum_and_count m j)) (sum_in (sum_and_count n k)) xs ys (sum_in-both m j)
    (sum_in-both n k))
    ∙ ap (sum_and_count (wrapped (int_total (bag_of (xs ++ ys)))))
    (counts_added (count_in (sum_and_count m j)) (count_in (sum_and_count n k)) xs ys
    (count_in-both m j) (count_in-both n k))

module _ (kept : List Value → List Value) (k : IsKept kept) where
  kept_merged : (xs ys : List Value)
      → value.List
      (kept (bag_of
      (members_or_none (value.List (kept (bag_of xs))) ++ members_or_none
      (value.List (kept (bag_of ys)))))) ≡ value.List (kept (bag_of (xs ++ ys)))
  kept_merged xs ys =
      ap (λ (l : List Value). value.List
      (kept (bag_of (l ++ members_or_none (value.List (kept (bag_of ys)))))))
      (members_or_none-List (kept (bag_of xs)))
      ∙ ap (λ (l : List Value). value.List (kept (bag_of (kept (bag_of xs) ++ l))))
      (members_or_none-List (kept (bag_of ys)))
      ∙ ap value.List (kept-append kept k xs ys)

pub merged-accumulator : (c : Comb) (xs ys : List Value)
    → merged c (accumulator c (bag_of xs)) (accumulator c (bag_of ys)) ≡ accumulator c
    (bag_of (xs ++ ys))
merged-accumulator by.Sum xs ys =
    wide (int_total (bag_of xs)) (int_total (bag_of ys)) (wrapped (int_total (bag_of (xs ++ ys))))
    (ap wrapped (total_of_both xs ys))
merged-accumulator by.Count xs ys =
    wide (pos (length (bag_of xs))) (pos (length (bag_of ys)))
    (wrapped (pos (length (bag_of (xs ++ ys)))))
    (ap (λ n. wrapped (pos n)) (length_of_both xs ys))
merged-accumulator by.Min xs ys = kept_merged (least 1) least-IsKept xs ys
merged-accumulator by.Max xs ys = kept_merged (greatest 1) (greatest-IsKept 1) xs ys
merged-accumulator by.All xs ys =
    ap (λ (b : Bool). value.Bool (b && truth_of (value.Bool (list_all truth_of (bag_of ys)))))
    (truth_of-Bool (list_all truth_of (bag_of xs)) ∙ list_all-bag_of truth_of xs)
    ∙ ap (λ (b : Bool). value.Bool (list_all truth_of xs && b))
    (truth_of-Bool (list_all truth_of (bag_of ys)) ∙ list_all-bag_of truth_of ys)
    ∙ ap value.Bool (sym (list_all-bag_of truth_of (xs ++ ys) ∙ list_all-append truth_of xs ys))
merged-accumulator by.Any xs ys =
    ap (λ (b : Bool). value.Bool (b || truth_of (value.Bool (list_any truth_of (bag_of ys)))))
    (truth_of-Bool (list_any truth_of (bag_of xs)) ∙ list_any-bag_of truth_of xs)
    ∙ ap (λ (b : Bool). value.Bool (list_any truth_of xs || b))
    (truth_of-Bool (list_any truth_of (bag_of ys)) ∙ list_any-bag_of truth_of ys)
    ∙ ap value.Bool (sym (list_any-bag_of truth_of (xs ++ ys) ∙ list_any-append truth_of xs ys))
merged-accumulator (by.Top n) xs ys = kept_merged (greatest n) (greatest-IsKept n) xs ys
merged-accumulator by.Mean xs ys = means_merged xs ys
merged-accumulator by.Distinct xs ys = kept_merged distinct distinct-IsKept xs ys
