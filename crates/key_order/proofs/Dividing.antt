-- Pairs whose keys are less than those of others have groups of their own, which stand first.
use Rattle.std.proofs.Common.{◌≡◌, ◌<◌, Bool, true, false, Some, None, Option, List, [], ◌∷◌, ◌++◌, append-nil, length, map, refl, sym, ap, ◌∙◌, arith}
use Rattle.std.specs.Prelude.{filter, not, option_map}
use Rattle.std.specs.List.{AllByRecursion as Each, cons_option}
use Rattle.std.specs.List.Sorted.{IsPermutation}
use Rattle.std.specs.Ordering.{is_lt, ordering_reverse}
use Rattle.std.specs.declared.cmp.Ordering.TheVariants.{Less, Equal}
use Rattle.std.proofs.lemmas.List.{length-map, map-append}
use Rattle.std.proofs.lemmas.List.Elements.{filter-append}
use Rattle.std.proofs.lemmas.List.Sorted.{IsPermutation-append}
use Rattle.flume_value.specs.declared.value.Value.{Value}
use Rattle.flume_value.specs.declared.value.Value.TheVariants as value
use Rattle.flume_value.specs.Bag.{bag_of}
use Rattle.flume_value.specs.Equality.{value_eq}
use Rattle.flume_value.specs.Order.{value_cmp}
use Rattle.flume_value.proofs.BagLemmas.{NotBelow, Rises, Each-bag_of, Rises-bag_of, bag_of-IsPermutation, bag_of-sorted, length-bag_of, sorted_from, IsPermutation-bag_of}
use Rattle.flume_value.proofs.EachLemmas.{Each-append, Each-map, Each-weaker}
use Rattle.flume_value.proofs.OrderLemmas.{value_cmp-same, value_cmp-total}
use Rattle.bag_groups.specs.Pairs.{key_of, pair, pairs_of, parts_of}
use Rattle.bag_groups.specs.Groups.{distinct, grouped, grouped_pairs, keys_of, values_of}
use Rattle.bag_groups.proofs.Grouping.{distinct-same, grouped-bag_of}
use Rattle.bag_groups.proofs.MemberLemmas.{Each-distinct, filter_all, filter_none, map_same}
use Rattle.bag_groups.proofs.PairLemmas.{Parts}
use Rattle.bag_groups.proofs.PairOrder.{value_eq-other, value_eq-same}

-- pairs in another order have the same groups
pub moved_groups : (pairs moved : List Value) → IsPermutation pairs moved
    → grouped moved ≡ grouped pairs
moved_groups pairs moved moves =
    sym (grouped-bag_of moved) ∙ ap grouped (bag_of-IsPermutation pairs moved moves)
    ∙ grouped-bag_of pairs

-- ---- keys of which each is less than each of the others

abbrev others : Value → Value → Bool
others v w = not (value_eq w v)

abbrev pub key : Parts → Value
key p = p.0

abbrev pub held : Parts → Value
held p = p.1

abbrev pub of_key : Value → Parts → Bool
of_key k p = value_eq (key p) k

abbrev group_in : List Parts → Value → Value
group_in ps k = pair k (value.List (values_of k ps))

module _ (U O : Value → Type 0) (less : (x y : Value) → U x → O y → value_cmp x y ≡ Less) where
  rises_over : (x y : Value) → U x → O y → NotBelow x y
  rises_over x y u o =
      ap is_lt (value_cmp-total.antisymm y x ∙ ap ordering_reverse (less x y u o))

  other_than : (x y : Value) → U x → O y → x ≡ y → ⊥
  other_than x y u o e =
      let wrong : Equal ≡ Less = sym (value_cmp-same x) ∙ ap (value_cmp x) e ∙ less x y u o in cc

  Rises-over : (xs ys : List Value) → Each U xs → Each O ys → Rises xs
      → Rises ys → Rises (xs ++ ys)
  Rises-over [] ys u o r s = s
  Rises-over (x ∷ xs) ys u o r s = (
    Each-append (NotBelow x) xs ys r.0
        (Each-weaker O (NotBelow x) (λ y h. rises_over x y u.0 h) ys o),
    Rises-over xs ys u.1 o r.1 s,
  )

  bag_of-over : (xs ys : List Value) → Each U xs → Each O ys
      → bag_of (xs ++ ys) ≡ bag_of xs ++ bag_of ys
  bag_of-over xs ys u o =
      sym (bag_of-sorted (xs ++ ys) (bag_of xs ++ bag_of ys)
      (IsPermutation-append xs (bag_of xs) ys (bag_of ys) (IsPermutation-bag_of xs)
      (IsPermutation-bag_of ys))
      (sorted_from (bag_of xs ++ bag_of ys) (Rises-over (bag_of xs) (bag_of ys)
      (Each-bag_of U xs u) (Each-bag_of O ys o) (Rises-bag_of xs)
      (Rises-bag_of ys))))

  distinct-over : (xs ys : List Value) → Each U xs → Each O ys
      → distinct (xs ++ ys) ≡ distinct xs ++ distinct ys
  distinct-over [] ys u o = refl
  distinct-over (x ∷ xs) ys u o =
      ap (λ l. x ∷ filter (others x) l) (distinct-over xs ys u.1 o)
      ∙ ap (λ l. x ∷ l) (filter-append (others x) (distinct xs) (distinct ys))
      ∙ ap (λ l. x ∷ (filter (others x) (distinct xs) ++ l))
      (filter_all (others x) (distinct ys)
      (Each-weaker O (λ w. others x w ≡ true)
      (λ w h. ap not (value_eq-other w x (λ e. other_than x w u.0 h (sym e)))) (distinct ys)
      (Each-distinct O ys o)))

-- ---- pairs of such keys

module _ (U O : Value → Type 0) (less : (x y : Value) → U x → O y → value_cmp x y ≡ Less)
    (ps qs : List Parts) (u : Each (λ p. U (key p)) ps) (o : Each (λ q. O (key q)) qs) where
  keys_up : Each U (map key ps)
  keys_up = Each-map U key ps u

  keys_above : Each O (map key qs)
  keys_above = Each-map O key qs o

  keys_of-over : keys_of (ps ++ qs) ≡ keys_of ps ++ keys_of qs
  keys_of-over =
      ap (λ l. distinct (bag_of l)) (map-append key ps qs)
      ∙ ap distinct (bag_of-over U O less (map key ps) (map key qs) keys_up keys_above)
      ∙ distinct-over U O less (bag_of (map key ps)) (bag_of (map key qs))
      (Each-bag_of U (map key ps) keys_up) (Each-bag_of O (map key qs) keys_above)

  abbrev held_of : List Parts → List Value
  held_of l = bag_of (map held l)

  values_of-first : (k : Value) → U k → values_of k (ps ++ qs) ≡ values_of k ps
  values_of-first k h =
      ap held_of (filter-append (of_key k) ps qs)
      ∙ ap (λ l. held_of (filter (of_key k) ps ++ l))
      (filter_none (of_key k) qs (Each-weaker (λ q. O (key q)) (λ q. of_key k q ≡ false)
      (λ q g. value_eq-other (key q) k (λ e. other_than U O less k (key q) h g (sym e))) qs o))
      ∙ ap held_of (append-nil (filter (of_key k) ps))

  values_of-second : (k : Value) → O k → values_of k (ps ++ qs) ≡ values_of k qs
  values_of-second k h =
      ap held_of (filter-append (of_key k) ps qs)
      ∙ ap (λ l. held_of (l ++ filter (of_key k) qs))
      (filter_none (of_key k) ps (Each-weaker (λ p. U (key p)) (λ p. of_key k p ≡ false)
      (λ p g. value_eq-other (key p) k (λ e. other_than U O less (key p) k g h e)) ps u))

  pub grouped-over : grouped_pairs (ps ++ qs) ≡ grouped_pairs ps ++ grouped_pairs qs
  grouped-over =
      ap (map (group_in (ps ++ qs))) keys_of-over
      ∙ map-append (group_in (ps ++ qs)) (keys_of ps) (keys_of qs)
      ∙ (λ i. map_same (group_in (ps ++ qs)) (group_in ps) (keys_of ps)
      (Each-weaker U (λ k. group_in (ps ++ qs) k ≡ group_in ps k)
      (λ k h. ap (λ vs. pair k (value.List vs)) (values_of-first k h)) (keys_of ps)
      (Each-distinct U (bag_of (map key ps)) (Each-bag_of U (map key ps) keys_up))) i
      ++ map_same (group_in (ps ++ qs)) (group_in qs) (keys_of qs)
      (Each-weaker O (λ k. group_in (ps ++ qs) k ≡ group_in qs k)
      (λ k h. ap (λ vs. pair k (value.List vs)) (values_of-second k h)) (keys_of qs)
      (Each-distinct O (bag_of (map key qs)) (Each-bag_of O (map key qs)
      keys_above))) i)

-- ---- pairs of one key

pub one_key-parts : (k : Value) (ps : List Parts) → Each (λ p. key p ≡ k) ps → 0 < length ps
    → grouped_pairs ps ≡ pair k (value.List (bag_of (map held ps))) ∷ []
one_key-parts k ps same some =
    let all_k : Each (λ j. j ≡ k) (bag_of (map key ps))
    = Each-bag_of (λ j. j ≡ k) (map key ps) (Each-map (λ j. j ≡ k) key ps same) in
    let many : 0 < length (bag_of (map key ps))
    = omega (arith, some, length-bag_of (map key ps), length-map ps key) in
    ap (map (group_in ps)) (distinct-same k (bag_of (map key ps)) all_k many)
    ∙ ap (λ l. pair k (value.List (bag_of (map held l))) ∷ [])
    (filter_all (of_key k) ps (Each-weaker (λ p. key p ≡ k) (λ p. of_key k p ≡ true)
    (λ p h. value_eq-same (key p) k h) ps same))

of_one_key : (k : Value) (o : Option Parts) (ps : List Parts)
    → option_map (λ parts. parts.0) o ≡ Some k → Each (λ p. key p ≡ k) ps
    → Each (λ p. key p ≡ k) (cons_option o ps) × (0 < length (cons_option o ps))
of_one_key k None ps e rest = cc e
of_one_key k (Some parts) ps e rest =
    let same : key parts ≡ k = cc in ((same, rest), omega arith)

-- of pairs that have the key
pub parts_of_key : (k : Value) (xs : List Value) → Each (λ x. key_of x ≡ Some k) xs
    → Each (λ p. key p ≡ k) (pairs_of xs)
parts_of_key k [] h = tt
parts_of_key k (x ∷ xs) h =
    (of_one_key k (parts_of x) (pairs_of xs) h.0 (parts_of_key k xs h.1)).0

pub some_parts : (k : Value) (xs : List Value) → Each (λ x. key_of x ≡ Some k) xs
    → 0 < length xs → 0 < length (pairs_of xs)
some_parts k [] h some = absurd (omega arith)
some_parts k (x ∷ xs) h some =
    (of_one_key k (parts_of x) (pairs_of xs) h.0 (parts_of_key k xs h.1)).1
