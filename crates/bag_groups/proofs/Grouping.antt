-- The groups of pairs: they rise, and depend on the bag of the pairs alone.
use Rattle.std.proofs.Common.{◌≡◌, ◌<◌, Bool, true, false, cond, List, [], ◌∷◌, ◌++◌, length, map, refl, sym, ap, ◌∙◌, arith}
use Rattle.std.specs.declared.cmp.Ordering.TheVariants.{Greater}
use Rattle.std.specs.Prelude.{filter, not, All}
use Rattle.std.specs.List.{AllByRecursion as Each, flat_map}
use Rattle.std.specs.List.Sorted.{IsSorted}
use Rattle.std.proofs.lemmas.List.Concat.{flat_map_single}
use Rattle.std.proofs.lemmas.List.Elements.{All-same}
use Rattle.std.proofs.lemmas.List.Sorted.{All-permutation}
use Rattle.flume_value.specs.declared.value.Value.{Value}
use Rattle.flume_value.specs.declared.value.Value.TheVariants as value
use Rattle.flume_value.specs.Order.{value_cmp}
use Rattle.flume_value.specs.Bag.{bag_of}
use Rattle.flume_value.specs.Equality.{value_eq}
use Rattle.flume_value.proofs.BagLemmas.{NotBelow, Rises, Rises-bag_of, sorted_from, IsPermutation-bag_of}
use Rattle.flume_value.proofs.EachLemmas.{Each-both, Each-map, Each-filter, Each-filter_passes}
use Rattle.bag_groups.specs.Pairs.{pair, IsPair, parts_of, pairs_of}
use Rattle.bag_groups.specs.Groups.{distinct, keys_of, values_of, grouped_pairs, grouped}
use Rattle.bag_groups.proofs.BagParts.{chosen-bag_of}
use Rattle.bag_groups.proofs.MemberLemmas.{Each-distinct, filter_none}
use Rattle.bag_groups.proofs.PairLemmas.{Parts}
use Rattle.bag_groups.proofs.PairOrder.{value_eq-same, less_from, pairs-NotBelow}

-- ---- distinct members

abbrev others : Value → Value → Bool
others v w = not (value_eq w v)

pub distinct-same : (k : Value) (xs : List Value) → Each (λ x. x ≡ k) xs → 0 < length xs
    → distinct xs ≡ k ∷ []
distinct-same k [] e h = absurd (omega arith)
distinct-same k (x ∷ xs) e h =
    ap (λ l. x ∷ l)
    (filter_none (others x) (distinct xs)
    (Each-distinct (λ w. others x w ≡ false) xs
    (Each-both (λ w. w ≡ k) (λ w. w ≡ k) (λ w. others x w ≡ false)
    (λ w same _. ap not (value_eq-same w x (same ∙ sym e.0))) xs e.1 e.1)))
    ∙ ap (λ v. v ∷ []) e.0

abbrev key : Parts → Value
key p = p.0

abbrev held : Parts → Value
held p = p.1

-- ---- the groups rise

-- each is less than those after it
abbrev Strict : List Value → Type 0
Strict [] = Unit {0}
Strict (x ∷ xs) = Each (λ y. value_cmp y x ≡ Greater) xs × Strict xs

Strict-filter : (p : Value → Bool) (xs : List Value) → Strict xs → Strict (filter p xs)
Strict-filter p [] s = tt
Strict-filter p (x ∷ xs) s = elim (p x) as (λ b. Strict (cond b (x ∷ filter p xs) (filter p xs))) [
  | true ↦ (Each-filter (λ y. value_cmp y x ≡ Greater) p xs s.0, Strict-filter p xs s.1)
  | false ↦ Strict-filter p xs s.1
]

not_true : (b : Bool) → not b ≡ true → b ≡ false
not_true true h = cc
not_true false h = refl

Strict-distinct : (xs : List Value) → Rises xs → Strict (distinct xs)
Strict-distinct [] r = tt
Strict-distinct (x ∷ xs) r = (
  Each-both (NotBelow x) (λ y. others x y ≡ true) (λ y. value_cmp y x ≡ Greater)
      (λ y up h. less_from x y up (not_true (value_eq y x) h))
      (filter (others x) (distinct xs))
      (Each-filter (NotBelow x) (others x) (distinct xs) (Each-distinct (NotBelow x) xs r.0))
      (Each-filter_passes (others x) (distinct xs)),
  Strict-filter (others x) (distinct xs) (Strict-distinct xs r.1),
)

Rises-groups : (F : Value → Value) (ks : List Value) → Strict ks
    → Rises (map (λ k. pair k (F k)) ks)
Rises-groups F [] s = tt
Rises-groups F (x ∷ xs) s = (
  Each-map (NotBelow (pair x (F x))) (λ k. pair k (F k)) xs
      (Each-both (λ y. value_cmp y x ≡ Greater) (λ y. value_cmp y x ≡ Greater)
      (λ y. NotBelow (pair x (F x)) (pair y (F y))) (λ y h _. pairs-NotBelow x (F x) y (F y) h)
      xs s.0 s.0),
  Rises-groups F xs s.1,
)

pub grouped-IsSorted : (table : List Value) → IsSorted value_cmp (grouped table)
grouped-IsSorted table =
    let pairs = pairs_of table in
    sorted_from (grouped table) (Rises-groups (λ k. value.List (values_of k pairs)) (keys_of pairs)
    (Strict-distinct (bag_of (map key pairs)) (Rises-bag_of (map key pairs))))

-- ---- the groups depend on the bag alone

keys_of-bag_of : (xs : List Value) → keys_of (pairs_of (bag_of xs)) ≡ keys_of (pairs_of xs)
keys_of-bag_of xs =
    ap (λ l. distinct (bag_of l)) (sym (flat_map_single key (pairs_of (bag_of xs))))
    ∙ ap distinct (chosen-bag_of parts_of (λ p. key p ∷ []) xs)
    ∙ ap (λ l. distinct (bag_of l)) (flat_map_single key (pairs_of xs))

abbrev value_if : Value → Parts → List Value
value_if k p = cond (value_eq (key p) k) (held p ∷ []) []

values_flat : (k : Value) (ps : List Parts)
    → map held (filter (λ p. value_eq (key p) k) ps) ≡ flat_map (value_if k) ps
values_flat k [] = refl
values_flat k (p ∷ ps) =
    elim (value_eq (key p) k) as (λ b. map held
    (cond b (p ∷ filter (λ q. value_eq (key q) k) ps) (filter (λ q. value_eq (key q) k) ps))
    ≡ cond b (held p ∷ []) [] ++ flat_map (value_if k) ps) [
      | true ↦ ap (λ l. held p ∷ l) (values_flat k ps)
      | false ↦ values_flat k ps
    ]

values_of-bag_of : (k : Value) (xs : List Value)
    → values_of k (pairs_of (bag_of xs)) ≡ values_of k (pairs_of xs)
values_of-bag_of k xs =
    ap bag_of (values_flat k (pairs_of (bag_of xs))) ∙ chosen-bag_of parts_of (value_if k) xs
    ∙ sym (ap bag_of (values_flat k (pairs_of xs)))

pub grouped-bag_of : (xs : List Value) → grouped (bag_of xs) ≡ grouped xs
grouped-bag_of xs =
    λ i. map (λ k. pair k (value.List (values_of-bag_of k xs i))) (keys_of-bag_of xs i)

pub pairs_begin : (pairs ascending : List Value) → ascending ≡ bag_of pairs → All IsPair pairs
    → All IsPair ascending
pairs_begin pairs ascending e all =
    All-same IsPair ascending (bag_of pairs) e
    (All-permutation IsPair pairs (bag_of pairs) (IsPermutation-bag_of pairs) all)
