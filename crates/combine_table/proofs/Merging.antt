-- Merging keeps the shape, is associative and commutative, and has the empty bag's accumulator as
-- its unit.
use Rattle.std.proofs.Common.{◌≡◌, ℕ, ◌≤◌, ℤ, pos, ◌+ℤ◌, Bool, true, false, ◌&&◌, ◌||◌, List, [], ◌∷◌, ◌++◌, length, refl, sym, ap, ◌∙◌, subst, arith, length-take}
use Rattle.std.specs.Int.{w128}
use Rattle.std.specs.Int.RustNames.{FitsSigned}
use Rattle.std.specs.List.{list_all, list_any}
use Rattle.std.specs.List.Sorted.{IsSorted}
use Rattle.std.proofs.Math.Bool.{and_comm}
use Rattle.std.proofs.Math.IntN.{+ℤ_assoc, +ℤ_comm, +ℤ_idl}
use Rattle.std.proofs.lemmas.Int.{int_wrap-add_left, int_wrap-add_right, SFits-int_wrap, int_wrap_fits}
use Rattle.flume_value.specs.declared.value.Value.{Value, Value-F, out-Value, roll-Value, roll-out-Value}
use Rattle.flume_value.specs.declared.value.Value.TheVariants as value
use Rattle.flume_value.specs.Order.{value_cmp}
use Rattle.flume_value.specs.Bag.{bag_of}
use Rattle.flume_value.specs.Parts.{members_or_none}
use Rattle.flume_value.proofs.BagLemmas.{IsSorted-bag_of, bag_of-settled, bag_of-either_order}
use Rattle.combine_table.specs.declared.comb.Comb.{Comb}
use Rattle.combine_table.specs.declared.comb.Comb.TheVariants as by
use Rattle.combine_table.specs.Contents.{truth_of, wide_or_zero, sum_in, count_in, first_wide, second_wide}
use Rattle.combine_table.specs.Combinations.{int_total, wrapped, least, greatest, distinct}
use Rattle.combine_table.specs.Accumulators.{sum_and_count, accumulator, IsWideAt, AreTwoWide, HasShapeAt, HasShape, merged}
use Rattle.combine_table.proofs.Kept.{IsKept, bag_of-kept, kept-assoc, least-IsKept, greatest-IsKept, length-greatest, greatest-all}
use Rattle.combine_table.proofs.Repeats.{distinct-IsKept, distinct-ascends, distinct-settled, strict_sorted}
use Rattle.combine_table.proofs.Parts.{bool_at, wide_at, list_at, fields_at, sum_in-both, count_in-both, truth_of-Bool, wide_or_zero-Wide, members_or_none-List}

-- ---- shapes

wide_shape : (c : Comb) (n : ℤ) → ((k : ℤ) → FitsSigned w128 k → HasShapeAt c (Value-F.Wide k))
    → HasShape c (value.Wide (wrapped n))
wide_shape c n h =
    subst (HasShapeAt c) (sym (value.outs-Wide (wrapped n))) (h (wrapped n) (SFits-int_wrap w128 n))

list_shape : (c : Comb) (vs : List Value) → HasShapeAt c (Value-F.List vs)
    → HasShape c (value.List vs)
list_shape c vs h = subst (HasShapeAt c) (sym (value.outs-List vs)) h

bool_shape : (c : Comb) (b : Bool) → HasShapeAt c (Value-F.Bool b) → HasShape c (value.Bool b)
bool_shape c b h = subst (HasShapeAt c) (sym (value.outs-Bool b)) h

wide_is : (n : ℤ) → IsWideAt (out-Value (value.Wide (wrapped n)))
wide_is n = subst IsWideAt (sym (value.outs-Wide (wrapped n))) (SFits-int_wrap w128 n)

mean_shape : (s c : ℤ) → HasShape by.Mean (sum_and_count (wrapped s) (wrapped c))
mean_shape s c =
    subst (HasShapeAt by.Mean)
    (sym (value.outs-Rec (value.Wide (wrapped s) ∷ value.Wide (wrapped c) ∷ [])))
    (wide_is s, wide_is c)

top_shape : (n : ℕ) (xs : List Value) → HasShape (by.Top n) (value.List (greatest n (bag_of xs)))
top_shape n xs =
    list_shape (by.Top n) (greatest n (bag_of xs)) (
      subst (IsSorted value_cmp) (bag_of-kept (greatest n) (greatest-IsKept n) xs)
          (IsSorted-bag_of (greatest n (bag_of xs))),
      length-greatest n (bag_of xs),
    )

pub accumulator-HasShape : (c : Comb) (xs : List Value) → HasShape c (accumulator c (bag_of xs))
accumulator-HasShape by.Sum xs = wide_shape by.Sum (int_total (bag_of xs)) (λ k h. h)
accumulator-HasShape by.Count xs = wide_shape by.Count (pos (length (bag_of xs))) (λ k h. h)
accumulator-HasShape by.Min xs = list_shape by.Min
    (least 1 (bag_of xs)) (omega (arith, length-take 1 (bag_of xs)))
accumulator-HasShape by.Max xs =
    list_shape by.Max (greatest 1 (bag_of xs)) (length-greatest 1 (bag_of xs))
accumulator-HasShape by.All xs = bool_shape by.All (list_all truth_of (bag_of xs)) tt
accumulator-HasShape by.Any xs = bool_shape by.Any (list_any truth_of (bag_of xs)) tt
accumulator-HasShape (by.Top n) xs = top_shape n xs
accumulator-HasShape by.Mean xs = mean_shape (int_total (bag_of xs)) (pos (length (bag_of xs)))
accumulator-HasShape by.Distinct xs =
    list_shape by.Distinct (distinct (bag_of xs)) (distinct-ascends xs)

pub merged-HasShape : (c : Comb) (a b : Value) → HasShape c (merged c a b)
merged-HasShape by.Sum a b = wide_shape by.Sum (wide_or_zero a +ℤ wide_or_zero b) (λ k h. h)
merged-HasShape by.Count a b = wide_shape by.Count (wide_or_zero a +ℤ wide_or_zero b) (λ k h. h)
merged-HasShape by.Min a b = list_shape by.Min
    (least 1 (bag_of (members_or_none a ++ members_or_none b)))
    (omega (arith, length-take 1 (bag_of (members_or_none a ++ members_or_none b))))
merged-HasShape by.Max a b =
    list_shape by.Max (greatest 1 (bag_of (members_or_none a ++ members_or_none b)))
    (length-greatest 1 (bag_of (members_or_none a ++ members_or_none b)))
merged-HasShape by.All a b = bool_shape by.All (truth_of a && truth_of b) tt
merged-HasShape by.Any a b = bool_shape by.Any (truth_of a || truth_of b) tt
merged-HasShape (by.Top n) a b = top_shape n (members_or_none a ++ members_or_none b)
merged-HasShape by.Mean a b = mean_shape (sum_in a +ℤ sum_in b) (count_in a +ℤ count_in b)
merged-HasShape by.Distinct a b =
    list_shape by.Distinct (distinct (bag_of (members_or_none a ++ members_or_none b)))
    (distinct-ascends (members_or_none a ++ members_or_none b))

sorted_at : (x : Value-F Value) → HasShapeAt by.Distinct x → IsSorted value_cmp (list_at x)
sorted_at (Value-F.List vs) h = strict_sorted vs h
sorted_at _ h = absurd h

pub shape_sorted : (c : Comb) (a : Value) (vs : List Value) → c ≡ by.Distinct → HasShape c a
    → vs ≡ members_or_none a → IsSorted value_cmp vs
shape_sorted c a vs is h e =
    subst (IsSorted value_cmp) (sym e)
    (sorted_at (out-Value a) (subst (λ (d : Comb). HasShape d a) is h))

-- ---- in any order

or_comm : (a b : Bool) → (a || b) ≡ (b || a)
or_comm true true = refl
or_comm true false = refl
or_comm false true = refl
or_comm false false = refl

pub merged-comm : (c : Comb) (a b : Value) → merged c a b ≡ merged c b a
merged-comm by.Sum a b =
    ap (λ n. value.Wide (wrapped n)) (+ℤ_comm (wide_or_zero a) (wide_or_zero b))
merged-comm by.Count a b =
    ap (λ n. value.Wide (wrapped n)) (+ℤ_comm (wide_or_zero a) (wide_or_zero b))
merged-comm by.Min a b =
    ap (λ l. value.List (least 1 l)) (bag_of-either_order (members_or_none b) (members_or_none a))
merged-comm by.Max a b =
    ap (λ l. value.List (greatest 1 l))
    (bag_of-either_order (members_or_none b) (members_or_none a))
merged-comm by.All a b = ap value.Bool (and_comm (truth_of a) (truth_of b))
merged-comm by.Any a b = ap value.Bool (or_comm (truth_of a) (truth_of b))
merged-comm (by.Top n) a b =
    ap (λ l. value.List (greatest n l))
    (bag_of-either_order (members_or_none b) (members_or_none a))
merged-comm by.Mean a b =
    ap (λ s. sum_and_count (wrapped s) (wrapped (count_in a +ℤ count_in b)))
    (+ℤ_comm (sum_in a) (sum_in b))
    ∙ ap (λ c. sum_and_count (wrapped (sum_in b +ℤ sum_in a)) (wrapped c))
    (+ℤ_comm (count_in a) (count_in b))
merged-comm by.Distinct a b =
    ap (λ l. value.List (distinct l))
    (bag_of-either_order (members_or_none b) (members_or_none a))

wrapped_assoc : (a m n k b : ℤ) → a ≡ wrapped (m +ℤ n) → b ≡ wrapped (n +ℤ k)
    → wrapped (a +ℤ k) ≡ wrapped (m +ℤ b)
wrapped_assoc a m n k b left right =
    ap (λ (x : ℤ). wrapped (x +ℤ k)) left
    ∙ int_wrap-add_left w128 (m +ℤ n) k ∙ ap wrapped (+ℤ_assoc m n k)
    ∙ sym (int_wrap-add_right w128 m (n +ℤ k))
    ∙ sym (ap (λ (x : ℤ). wrapped (m +ℤ x)) right)

mean_assoc : (x y z : Value)
    → merged by.Mean (merged by.Mean x y) z ≡ merged by.Mean x (merged by.Mean y z)
mean_assoc x y z =
    let s = wrapped (sum_in x +ℤ sum_in y) in let t = wrapped (sum_in y +ℤ sum_in z) in
    let c = wrapped (count_in x +ℤ count_in y) in let d = wrapped (count_in y +ℤ count_in z) in
    ap (λ (n : ℤ). sum_and_count n (wrapped (count_in (sum_and_count s c) +ℤ count_in z)))
    (wrapped_assoc (sum_in (sum_and_count s c)) (sum_in x) (sum_in y) (sum_in z)
    (sum_in (sum_and_count t d)) (sum_in-both s c) (sum_in-both t d))
    ∙ ap (λ (n : ℤ). sum_and_count (wrapped (sum_in x +ℤ sum_in (sum_and_count t d))) n)
    (wrapped_assoc (count_in (sum_and_count s c)) (count_in x) (count_in y) (count_in z)
    (count_in (sum_and_count t d)) (count_in-both s c) (count_in-both t d))

wide_assoc : (m n k : ℤ)
    → value.Wide (wrapped (wide_or_zero (value.Wide (wrapped (m +ℤ n))) +ℤ k)) ≡ value.Wide
    (wrapped (m +ℤ wide_or_zero (value.Wide (wrapped (n +ℤ k)))))
wide_assoc m n k =
    ap (λ (x : ℤ). value.Wide (wrapped (x +ℤ k))) (wide_or_zero-Wide (wrapped (m +ℤ n)))
    ∙ ap value.Wide
    (int_wrap-add_left w128 (m +ℤ n) k ∙ ap wrapped (+ℤ_assoc m n k)
    ∙ sym (int_wrap-add_right w128 m (n +ℤ k)))
    ∙ sym (ap (λ (x : ℤ). value.Wide (wrapped (m +ℤ x))) (wide_or_zero-Wide (wrapped (n +ℤ k))))

module _ (kept : List Value → List Value) (k : IsKept kept) where
  list_assoc : (xs ys zs : List Value)
      → value.List
      (kept (bag_of (members_or_none (value.List (kept (bag_of (xs ++ ys)))) ++ zs))) ≡ value.List
      (kept (bag_of (xs ++ members_or_none (value.List (kept (bag_of (ys ++ zs)))))))
  list_assoc xs ys zs =
      ap (λ (l : List Value). value.List (kept (bag_of (l ++ zs))))
      (members_or_none-List (kept (bag_of (xs ++ ys))))
      ∙ ap value.List (kept-assoc kept k xs ys zs)
      ∙ sym (ap (λ (l : List Value). value.List (kept (bag_of (xs ++ l))))
      (members_or_none-List (kept (bag_of (ys ++ zs)))))

and_assoc : (a b c : Bool) → ((a && b) && c) ≡ (a && (b && c))
and_assoc true b c = refl
and_assoc false b c = refl

or_assoc : (a b c : Bool) → ((a || b) || c) ≡ (a || (b || c))
or_assoc true b c = refl
or_assoc false b c = refl

pub merged-assoc : (c : Comb) (x y z : Value)
    → merged c (merged c x y) z ≡ merged c x (merged c y z)
merged-assoc by.Sum x y z = wide_assoc (wide_or_zero x) (wide_or_zero y) (wide_or_zero z)
merged-assoc by.Count x y z = wide_assoc (wide_or_zero x) (wide_or_zero y) (wide_or_zero z)
merged-assoc by.Min x y z =
    list_assoc (least 1) least-IsKept (members_or_none x) (members_or_none y) (members_or_none z)
merged-assoc by.Max x y z =
    list_assoc (greatest 1) (greatest-IsKept 1) (members_or_none x) (members_or_none y)
    (members_or_none z)
merged-assoc by.All x y z =
    ap (λ (b : Bool). value.Bool (b && truth_of z)) (truth_of-Bool (truth_of x && truth_of y))
    ∙ ap value.Bool (and_assoc (truth_of x) (truth_of y) (truth_of z))
    ∙ sym (ap (λ (b : Bool). value.Bool (truth_of x && b))
    (truth_of-Bool (truth_of y && truth_of z)))
merged-assoc by.Any x y z =
    ap (λ (b : Bool). value.Bool (b || truth_of z)) (truth_of-Bool (truth_of x || truth_of y))
    ∙ ap value.Bool (or_assoc (truth_of x) (truth_of y) (truth_of z))
    ∙ sym (ap (λ (b : Bool). value.Bool (truth_of x || b))
    (truth_of-Bool (truth_of y || truth_of z)))
merged-assoc (by.Top n) x y z =
    list_assoc (greatest n) (greatest-IsKept n) (members_or_none x) (members_or_none y)
    (members_or_none z)
merged-assoc by.Mean x y z = mean_assoc x y z
merged-assoc by.Distinct x y z =
    list_assoc distinct distinct-IsKept (members_or_none x) (members_or_none y) (members_or_none z)

-- ---- the unit

same_out : (a b : Value) → out-Value a ≡ out-Value b → a ≡ b
same_out a b e = sym (roll-out-Value a) ∙ ap roll-Value e ∙ roll-out-Value b

few_is_bag : (vs : List Value) → length vs ≤ 1 → bag_of vs ≡ vs
few_is_bag [] h = refl
few_is_bag (v ∷ []) h = refl
few_is_bag (v ∷ w ∷ vs) h = absurd (omega arith)

wide_unit : (a : Value) (n : ℤ) → out-Value a ≡ Value-F.Wide n → FitsSigned w128 n
    → value.Wide (wrapped (wide_or_zero (value.Wide (wrapped (pos 0))) +ℤ wide_or_zero a)) ≡ a
wide_unit a n e h =
    ap (λ (x : ℤ). value.Wide (wrapped (x +ℤ wide_or_zero a))) (wide_or_zero-Wide (wrapped (pos 0)))
    ∙ ap (λ (x : ℤ). value.Wide (wrapped (wrapped (pos 0) +ℤ x))) (ap wide_at e)
    ∙ ap value.Wide
    (int_wrap-add_left w128 (pos 0) n ∙ ap wrapped (+ℤ_idl n) ∙ int_wrap_fits w128 n h)
    ∙ same_out (value.Wide n) a (value.outs-Wide n ∙ sym e)

list_unit : (kept : List Value → List Value) (a : Value) (vs : List Value) → kept [] ≡ []
    → out-Value a ≡ Value-F.List vs → bag_of vs ≡ vs → kept vs ≡ vs
    → value.List (kept (bag_of (members_or_none (value.List (kept [])) ++ members_or_none a))) ≡ a
list_unit kept a vs none e is_bag all =
    ap (λ (l : List Value). value.List (kept (bag_of (l ++ members_or_none a))))
    (members_or_none-List (kept []) ∙ none)
    ∙ ap (λ (l : List Value). value.List (kept (bag_of l))) (ap list_at e)
    ∙ ap value.List (ap kept is_bag ∙ all)
    ∙ same_out (value.List vs) a (value.outs-List vs ∙ sym e)

few_kept : (vs : List Value) → length vs ≤ 1 → least 1 vs ≡ vs
few_kept [] h = refl
few_kept (v ∷ []) h = refl
few_kept (v ∷ w ∷ vs) h = absurd (omega arith)

bool_unit : (op : Bool → Bool → Bool) (u : Bool) (a : Value) (b : Bool)
    → out-Value a ≡ Value-F.Bool b → op u b ≡ b
    → value.Bool (op (truth_of (value.Bool u)) (truth_of a)) ≡ a
bool_unit op u a b e h =
    ap (λ (x : Bool). value.Bool (op x (truth_of a))) (truth_of-Bool u)
    ∙ ap (λ (x : Bool). value.Bool (op u x)) (ap bool_at e)
    ∙ ap value.Bool h
    ∙ same_out (value.Bool b) a (value.outs-Bool b ∙ sym e)

wrapped_unit : (u m n : ℤ) → u ≡ wrapped (pos 0) → m ≡ n → FitsSigned w128 n
    → wrapped (u +ℤ m) ≡ n
wrapped_unit u m n zero is fits =
    ap (λ (x : ℤ). wrapped (x +ℤ m)) zero ∙ int_wrap-add_left w128 (pos 0) m
    ∙ ap wrapped (+ℤ_idl m ∙ is) ∙ int_wrap_fits w128 n fits

-- a value that holds a wide number is the value of its number
wide_of_at : (v : Value) (x : Value-F Value) → out-Value v ≡ x → IsWideAt x
    → (v ≡ value.Wide (wide_or_zero v)) × FitsSigned w128 (wide_or_zero v)
wide_of_at v (Value-F.Wide n) e h = (
  same_out v (value.Wide (wide_or_zero v))
      (e ∙ ap Value-F.Wide (sym (ap wide_at e)) ∙ sym (value.outs-Wide (wide_or_zero v))),
  subst (FitsSigned w128) (sym (ap wide_at e)) h,
)
wide_of_at v _ e h = absurd h

mean_unit : (a : Value) (vs : List Value) → out-Value a ≡ Value-F.Rec vs → AreTwoWide vs
    → merged by.Mean (accumulator by.Mean []) a ≡ a
mean_unit a [] e h = absurd h
mean_unit a (s ∷ []) e h = absurd h
mean_unit a (s ∷ c ∷ []) e h =
    let sum = wide_of_at s (out-Value s) refl h.0 in
    let count = wide_of_at c (out-Value c) refl h.1 in
    let none = wrapped (pos 0) in
    ap (λ (n : ℤ). sum_and_count n (wrapped (count_in (sum_and_count none none) +ℤ count_in a)))
    (wrapped_unit (sum_in (sum_and_count none none)) (sum_in a) (wide_or_zero s)
    (sum_in-both none none) (ap (λ (x : Value-F Value). first_wide (fields_at x)) e) sum.1)
    ∙ ap (sum_and_count (wide_or_zero s))
    (wrapped_unit (count_in (sum_and_count none none)) (count_in a) (wide_or_zero c)
    (count_in-both none none) (ap (λ (x : Value-F Value). second_wide (fields_at x)) e) count.1)
    ∙ ap (λ (v : Value). value.Rec (v ∷ value.Wide (wide_or_zero c) ∷ [])) (sym sum.0)
    ∙ ap (λ (v : Value). value.Rec (s ∷ v ∷ [])) (sym count.0)
    ∙ same_out (value.Rec (s ∷ c ∷ [])) a (value.outs-Rec (s ∷ c ∷ []) ∙ sym e)
mean_unit a (s ∷ c ∷ v ∷ vs) e h = absurd h

unit_at : (c : Comb) (a : Value) (x : Value-F Value) → out-Value a ≡ x → HasShapeAt c x
    → merged c (accumulator c []) a ≡ a
unit_at by.Sum a (Value-F.Wide n) e h = wide_unit a n e h
unit_at by.Count a (Value-F.Wide n) e h = wide_unit a n e h
unit_at by.Min a (Value-F.List vs) e h =
    list_unit (least 1) a vs refl e (few_is_bag vs h) (few_kept vs h)
unit_at by.Max a (Value-F.List vs) e h =
    list_unit (greatest 1) a vs refl e (few_is_bag vs h) (greatest-all 1 vs h)
unit_at by.All a (Value-F.Bool b) e h = bool_unit (λ x y. x && y) true a b e refl
unit_at by.Any a (Value-F.Bool b) e h = bool_unit (λ x y. x || y) false a b e refl
unit_at (by.Top n) a (Value-F.List vs) e h =
    list_unit (greatest n) a vs (greatest-all n [] (omega arith)) e (bag_of-settled vs h.0)
    (greatest-all n vs h.1)
unit_at by.Mean a (Value-F.Rec vs) e h = mean_unit a vs e h
unit_at by.Distinct a (Value-F.List vs) e h =
    list_unit distinct a vs refl e (bag_of-settled vs (strict_sorted vs h)) (distinct-settled vs h)
unit_at _ a _ e h = absurd h

pub merged-unit_left : (c : Comb) (a : Value) → HasShape c a → merged c (accumulator c []) a ≡ a
merged-unit_left c a h = unit_at c a (out-Value a) refl h

pub merged-unit_right : (c : Comb) (a : Value) → HasShape c a → merged c a (accumulator c []) ≡ a
merged-unit_right c a h = merged-comm c a (accumulator c []) ∙ merged-unit_left c a h
