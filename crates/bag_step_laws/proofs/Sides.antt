-- Joins by groups of values that are marked with their sides.
use Rattle.std.proofs.Common.{◌≡◌, append-nil, true, false, cond, Option, None, Some, List, [], ◌∷◌, ◌++◌, map, refl, sym, ap, ◌∙◌}
use Rattle.std.specs.Prelude.{filter, filter_map, option_map}
use Rattle.std.specs.Ordering.{is_lt}
use Rattle.std.specs.List.{AllByRecursion as Each, cons_option, flat_map}
use Rattle.std.specs.Option.{option_to_list}
use Rattle.std.proofs.lemmas.List.{map-append}
use Rattle.std.proofs.lemmas.List.Elements.{filter-append, filter_map-append}
use Rattle.std.proofs.lemmas.List.Sorted.{IsPermutation-append, IsPermutation-map}
use Rattle.flume_value.specs.declared.value.Value.{Value}
use Rattle.flume_value.specs.declared.value.Value.TheVariants as value
use Rattle.flume_value.specs.Bag.{bag_of}
use Rattle.flume_value.specs.Equality.{value_eq}
use Rattle.flume_value.specs.Order.{layer_cmp, value_cmp}
use Rattle.flume_value.specs.Parts.{left_layer, left_of, right_layer, right_of}
use Rattle.flume_value.proofs.EachLemmas.{Each-append, Each-map, Each-weaker}
use Rattle.flume_value.proofs.OrderLemmas.{value_cmp-step}
use Rattle.flume_value.proofs.BagLemmas.{IsPermutation-bag_of, NotBelow, Rises, Rises-bag_of, bag_of-sorted, sorted_from}
use Rattle.bag_groups.specs.Pairs.{pair, parts_of, pairs_of}
use Rattle.bag_groups.specs.Groups.{distinct, grouped, keys_of, values_of}
use Rattle.bag_groups.proofs.PairLemmas.{Parts, parts_of-pair}
use Rattle.bag_steps.specs.Joins.{joined, sides}
use Rattle.bag_step_laws.specs.Derived.{lefts, marked_pairs, marked_left, marked_right, rights, split_sides}
use Rattle.bag_step_laws.proofs.GroupRows.{group_of-pair, map_map}

-- ---- marked values in order: those of the left, then those of the right

cmp-Left : (x y : Value) → value_cmp (value.Left x) (value.Left y) ≡ value_cmp x y
cmp-Left x y =
    value_cmp-step (value.Left x) (value.Left y)
    ∙ (λ i. layer_cmp value_cmp (value.outs-Left x i) (value.outs-Left y i))

cmp-Right : (x y : Value) → value_cmp (value.Right x) (value.Right y) ≡ value_cmp x y
cmp-Right x y =
    value_cmp-step (value.Right x) (value.Right y)
    ∙ (λ i. layer_cmp value_cmp (value.outs-Right x i) (value.outs-Right y i))

left_first : (x y : Value) → NotBelow (value.Left x) (value.Right y)
left_first x y =
    ap is_lt (value_cmp-step (value.Right y) (value.Left x)
    ∙ (λ i. layer_cmp value_cmp (value.outs-Right y i) (value.outs-Left x i)))

Rises-marks : (mark : Value → Value)
    → ((x y : Value) → value_cmp (mark x) (mark y) ≡ value_cmp x y)
    → (xs : List Value) → Rises xs → Rises (map mark xs)
Rises-marks mark same [] r = tt
Rises-marks mark same (x ∷ xs) r = (
  Each-map (NotBelow (mark x)) mark xs
      (Each-weaker (NotBelow x) (λ y. NotBelow (mark x) (mark y))
      (λ y h. ap is_lt (same y x) ∙ h) xs r.0),
  Rises-marks mark same xs r.1,
)

all_later : (x : Value) (ys : List Value) → Each (NotBelow (value.Left x)) (map value.Right ys)
all_later x [] = tt
all_later x (y ∷ ys) = (left_first x y, all_later x ys)

Rises-sides : (xs ys : List Value) → Rises xs → Rises ys
    → Rises (map value.Left xs ++ map value.Right ys)
Rises-sides [] ys r s = Rises-marks value.Right cmp-Right ys s
Rises-sides (x ∷ xs) ys r s = (
  Each-append (NotBelow (value.Left x)) (map value.Left xs) (map value.Right ys)
      (Rises-marks value.Left cmp-Left (x ∷ xs) r).0 (all_later x ys),
  Rises-sides xs ys r.1 s,
)

bag_of-sides : (xs ys : List Value) → bag_of (map value.Left xs ++ map value.Right ys)
    ≡ map value.Left (bag_of xs) ++ map value.Right (bag_of ys)
bag_of-sides xs ys =
    sym (bag_of-sorted (map value.Left xs ++ map value.Right ys)
    (map value.Left (bag_of xs) ++ map value.Right (bag_of ys))
    (IsPermutation-append (map value.Left xs) (map value.Left (bag_of xs))
    (map value.Right ys) (map value.Right (bag_of ys))
    (IsPermutation-map value.Left xs (bag_of xs) (IsPermutation-bag_of xs))
    (IsPermutation-map value.Right ys (bag_of ys) (IsPermutation-bag_of ys)))
    (sorted_from (map value.Left (bag_of xs) ++ map value.Right (bag_of ys))
    (Rises-sides (bag_of xs) (bag_of ys) (Rises-bag_of xs) (Rises-bag_of ys))))

-- ---- their marks taken off

kept_all : (choose : Value → Option Value) (mark : Value → Value)
    → ((x : Value) → choose (mark x) ≡ Some x) → (xs : List Value)
    → filter_map choose (map mark xs) ≡ xs
kept_all choose mark is [] = refl
kept_all choose mark is (x ∷ xs) = λ i. cons_option (is x i) (kept_all choose mark is xs i)

kept_none : (choose : Value → Option Value) (mark : Value → Value)
    → ((x : Value) → choose (mark x) ≡ None) → (xs : List Value)
    → filter_map choose (map mark xs) ≡ []
kept_none choose mark is [] = refl
kept_none choose mark is (x ∷ xs) = λ i. cons_option (is x i) (kept_none choose mark is xs i)

lefts-sides : (xs ys : List Value) → lefts (map value.Left xs ++ map value.Right ys) ≡ xs
lefts-sides xs ys =
    filter_map-append left_of (map value.Left xs) (map value.Right ys)
    ∙ (λ i. kept_all left_of value.Left (λ x. ap left_layer (value.outs-Left x)) xs i
    ++ kept_none left_of value.Right (λ x. ap left_layer (value.outs-Right x)) ys i)
    ∙ append-nil xs

rights-sides : (xs ys : List Value) → rights (map value.Left xs ++ map value.Right ys) ≡ ys
rights-sides xs ys =
    filter_map-append right_of (map value.Left xs) (map value.Right ys)
    ∙ (λ i. kept_none right_of value.Left (λ x. ap right_layer (value.outs-Left x)) xs i
    ++ kept_all right_of value.Right (λ x. ap right_layer (value.outs-Right x)) ys i)

-- ---- the pairs of both sides, marked

abbrev mark_held : (Value → Value) → Parts → Parts
mark_held mark p = (p.0, mark p.1)

abbrev marked_by : (Value → Value) → Value → List Value
marked_by mark p = option_to_list (option_map (λ (it : Parts). pair it.0 (mark it.1)) (parts_of p))

marked_one : (mark : Value → Value) (o : Option Parts)
    → pairs_of (option_to_list (option_map (λ (it : Parts). pair it.0 (mark it.1)) o))
    ≡ map (mark_held mark) (option_to_list o)
marked_one mark None = refl
marked_one mark (Some p) = ap (λ o. cons_option o []) (parts_of-pair p.0 (mark p.1))

option_ahead : {A : Type 0} (o : Option A) (xs : List A) → option_to_list o ++ xs ≡ cons_option o xs
option_ahead None xs = refl
option_ahead (Some x) xs = refl

parts-marked : (mark : Value → Value) (xs : List Value)
    → pairs_of (flat_map (marked_by mark) xs) ≡ map (mark_held mark) (pairs_of xs)
parts-marked mark [] = refl
parts-marked mark (x ∷ xs) =
    filter_map-append parts_of (marked_by mark x) (flat_map (marked_by mark) xs)
    ∙ (λ i. marked_one mark (parts_of x) i ++ parts-marked mark xs i)
    ∙ sym (map-append (mark_held mark) (option_to_list (parts_of x)) (pairs_of xs))
    ∙ ap (map (mark_held mark)) (option_ahead (parts_of x) (pairs_of xs))

abbrev both_sides : List Parts → List Parts → List Parts
both_sides ps qs = map (mark_held value.Left) ps ++ map (mark_held value.Right) qs

parts-both : (left right : List Value)
    → pairs_of (marked_pairs left right) ≡ both_sides (pairs_of left) (pairs_of right)
parts-both left right =
    filter_map-append parts_of (flat_map marked_left left) (flat_map marked_right right)
    ∙ (λ i. parts-marked value.Left left i ++ parts-marked value.Right right i)

keys-both : (ps qs : List Parts) → keys_of (both_sides ps qs) ≡ keys_of (ps ++ qs)
keys-both ps qs =
    let key : Parts → Value = λ p. p.0 in
    ap (λ l. distinct (bag_of l))
    (map-append key (map (mark_held value.Left) ps) (map (mark_held value.Right) qs)
    ∙ (λ i. map_map key (mark_held value.Left) ps i ++ map_map key (mark_held value.Right) qs i)
    ∙ sym (map-append key ps qs))

filter-marked : (mark : Value → Value) (k : Value) (ps : List Parts)
    → map (λ (p : Parts). p.1) (filter (λ p. value_eq p.0 k) (map (mark_held mark) ps))
    ≡ map mark (map (λ (p : Parts). p.1) (filter (λ p. value_eq p.0 k) ps))
filter-marked mark k [] = refl
filter-marked mark k (p ∷ ps) =
    let held : Parts → Value = λ q. q.1 in
    let rest = filter (λ (q : Parts). value_eq q.0 k) ps in
    let marks = filter (λ (q : Parts). value_eq q.0 k) (map (mark_held mark) ps) in
    elim (value_eq p.0 k) as (λ b. map held (cond b (mark_held mark p ∷ marks) marks)
    ≡ map mark (map held (cond b (p ∷ rest) rest))) [
      | true ↦ ap (λ l. mark p.1 ∷ l) (filter-marked mark k ps)
      | false ↦ filter-marked mark k ps
    ]

values-both : (k : Value) (ps qs : List Parts) → values_of k (both_sides ps qs)
    ≡ map value.Left (values_of k ps) ++ map value.Right (values_of k qs)
values-both k ps qs =
    let held : Parts → Value = λ p. p.1 in
    let of_key : List Parts → List Parts = λ l. filter (λ p. value_eq p.0 k) l in
    ap (λ l. bag_of (map held l)) (filter-append (λ (p : Parts). value_eq p.0 k)
    (map (mark_held value.Left) ps) (map (mark_held value.Right) qs))
    ∙ ap bag_of
    (map-append held (of_key (map (mark_held value.Left) ps))
    (of_key (map (mark_held value.Right) qs))
    ∙ (λ i. filter-marked value.Left k ps i ++ filter-marked value.Right k qs i))
    ∙ bag_of-sides (map held (of_key ps)) (map held (of_key qs))

-- ---- the rows

split-pair : (k : Value) (vs : List Value)
    → split_sides (pair k (value.List vs)) ≡ pair k (sides (lefts vs) (rights vs)) ∷ []
split-pair k vs =
    ap (λ o. option_to_list (option_map
    (λ (g : Value × List Value). pair g.0 (sides (lefts g.1) (rights g.1))) o))
    (group_of-pair k vs)

split-groups : (F : Value → List Value) (ks : List Value)
    → flat_map split_sides (map (λ k. pair k (value.List (F k))) ks)
    ≡ map (λ k. pair k (sides (lefts (F k)) (rights (F k)))) ks
split-groups F [] = refl
split-groups F (k ∷ ks) = λ i. split-pair k (F k) i ++ split-groups F ks i

pub split-marked : (left right : List Value)
    → flat_map split_sides (grouped (marked_pairs left right)) ≡ joined left right
split-marked left right =
    let ps = pairs_of left in
    let qs = pairs_of right in
    split-groups (λ k. values_of k (pairs_of (marked_pairs left right)))
    (keys_of (pairs_of (marked_pairs left right)))
    ∙ (λ i. map (λ k. pair k (sides (lefts (values_of k (parts-both left right i)))
    (rights (values_of k (parts-both left right i))))) (keys_of (parts-both left right i)))
    ∙ (λ i. map (λ k. pair k (sides (lefts (values-both k ps qs i))
    (rights (values-both k ps qs i)))) (keys-both ps qs i))
    ∙ (λ i. map (λ k. pair k (sides (lefts-sides (values_of k ps) (values_of k qs) i)
    (rights-sides (values_of k ps) (values_of k qs) i))) (keys_of (ps ++ qs)))
