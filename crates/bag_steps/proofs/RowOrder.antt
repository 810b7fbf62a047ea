-- Rows of keys that rise, and never repeat, rise.
use Rattle.std.proofs.Common.{◌≡◌, ◌-◌, ℕ, length, take, drop, Bool, true, false, cond, List, [], ◌∷◌, ◌++◌, map, refl, sym, ap, ◌∙◌, subst}
use Rattle.std.specs.declared.cmp.Ordering.TheVariants.{Greater}
use Rattle.std.specs.Prelude.{Result, Ok, Err, filter, not}
use Rattle.std.specs.List.{AllByRecursion as Each, flat_map}
use Rattle.std.specs.List.Sorted.{IsSorted}
use Rattle.std.proofs.lemmas.List.{take_rest}
use Rattle.std.proofs.lemmas.List.Concat.{flat_map_single}
use Rattle.flume_value.specs.declared.fault.Kind.{Kind}
use Rattle.flume_value.specs.declared.value.Value.{Value}
use Rattle.flume_value.specs.Order.{value_cmp}
use Rattle.flume_value.specs.Equality.{value_eq}
use Rattle.flume_value.specs.Bag.{bag_of}
use Rattle.flume_value.proofs.EachLemmas.{Each-both, Each-filter, Each-filter_passes}
use Rattle.flume_value.proofs.RisesLemmas.{Rises-drop}
use Rattle.flume_value.proofs.BagLemmas.{NotBelow, Rises, Rises-bag_of, bag_of-settled, sorted_from}
use Rattle.keyed_steps.specs.of_bag_groups.Pairs.{pair, pairs_of}
use Rattle.keyed_steps.specs.of_bag_groups.Groups.{distinct, keys_of, values_of}
use Rattle.keyed_steps.specs.of_bag_groups.Combining.{combined_pair}
use Rattle.keyed_steps.proofs.of_bag_groups.MemberLemmas.{Each-distinct}
use Rattle.keyed_steps.proofs.of_bag_groups.PairOrder.{less_from, pairs-NotBelow}
use Rattle.keyed_steps.specs.of_combine_table.Combinations.{greatest}
use Rattle.bag_steps.specs.Counts.{counted, count_of_value}
use Rattle.bag_steps.specs.Joins.{joined, sides}

-- the value is above k
abbrev IsAbove : Value → Value → Type 0
IsAbove k v = value_cmp v k ≡ Greater

-- each is below all after it
abbrev pub Climbs : List Value → Type 0
Climbs [] = Unit {0}
Climbs (k ∷ ks) = Each (IsAbove k) ks × Climbs ks

Climbs-filter : (keep : Value → Bool) (ks : List Value) → Climbs ks → Climbs (filter keep ks)
Climbs-filter keep [] c = tt
Climbs-filter keep (k ∷ ks) c =
    elim (keep k) as (λ b. Climbs (cond b (k ∷ filter keep ks) (filter keep ks))) [
      | true ↦ (Each-filter (IsAbove k) keep ks c.0, Climbs-filter keep ks c.1)
      | false ↦ Climbs-filter keep ks c.1
    ]

above_from : (k v : Value) → NotBelow k v → not (value_eq v k) ≡ true → IsAbove k v
above_from k v up other =
    less_from k v up
    (elim (value_eq v k) as (λ b. not b ≡ true → b ≡ false) [ true ↦ λ h. cc | false ↦ λ h. refl ]
    other)

Climbs-distinct : (ks : List Value) → Rises ks → Climbs (distinct ks)
Climbs-distinct [] r = tt
Climbs-distinct (k ∷ ks) r =
    let other : Value → Bool = λ v. not (value_eq v k) in (
      Each-both (NotBelow k) (λ v. other v ≡ true) (IsAbove k) (above_from k)
          (filter other (distinct ks))
          (Each-filter (NotBelow k) other (distinct ks) (Each-distinct (NotBelow k) ks r.0))
          (Each-filter_passes other (distinct ks)),
      Climbs-filter other (distinct ks) (Climbs-distinct ks r.1),
    )

-- ---- a row for each key, where it has one

module _ (given : Value → Result Value Kind) where
  abbrev row : Value → List Value
  row k = combined_pair k (given k)

  rows-above : (k v : Value) (ks : List Value) → Each (IsAbove k) ks
      → Each (NotBelow (pair k v)) (flat_map row ks)
  rows-above k v [] e = tt
  rows-above k v (j ∷ ks) e =
      elim (given j) as (λ r. Each (NotBelow (pair k v)) (combined_pair j r ++ flat_map row ks)) [
        | Ok w ↦ (pairs-NotBelow k v j w e.0, rows-above k v ks e.1)
        | Err kind ↦ rows-above k v ks e.1
      ]

  Rises-rows : (ks : List Value) → Climbs ks → Rises (flat_map row ks)
  Rises-rows [] c = tt
  Rises-rows (k ∷ ks) c =
      elim (given k) as (λ r. Rises (combined_pair k r ++ flat_map row ks)) [
        | Ok v ↦ (rows-above k v ks c.0, Rises-rows ks c.1)
        | Err kind ↦ Rises-rows ks c.1
      ]

pub rows_sorted : (given : Value → Result Value Kind) (ks : List Value)
    → IsSorted value_cmp (flat_map (λ k. combined_pair k (given k)) (distinct (bag_of ks)))
rows_sorted given ks =
    sorted_from (flat_map (λ k. combined_pair k (given k)) (distinct (bag_of ks)))
    (Rises-rows given (distinct (bag_of ks)) (Climbs-distinct (bag_of ks) (Rises-bag_of ks)))

pub counted-IsSorted : (bag : List Value) → IsSorted value_cmp (counted bag)
counted-IsSorted bag = rows_sorted (count_of_value bag) bag

pub joined-IsSorted : (left right : List Value) → IsSorted value_cmp (joined left right)
joined-IsSorted left right =
    let F : Value → Value
    = λ k. sides (values_of k (pairs_of left)) (values_of k (pairs_of right)) in
    let keys = keys_of (pairs_of left ++ pairs_of right) in
    subst (IsSorted value_cmp) (flat_map_single (λ k. pair k (F k)) keys)
    (rows_sorted (λ k. Ok (F k)) (map (λ p. p.0) (pairs_of left ++ pairs_of right)))

-- ---- the greatest members

pub greatest-IsSorted : (n : ℕ) (bag : List Value) → IsSorted value_cmp (greatest n (bag_of bag))
greatest-IsSorted n bag =
    sorted_from (greatest n (bag_of bag))
    (Rises-drop (length (bag_of bag) - n) (bag_of bag) (Rises-bag_of bag))

-- the slice from k on
pub greatest_is : (n k : ℕ) (bag kept made : List Value) → IsSorted value_cmp bag → made ≡ kept
    → kept ≡ take (length bag - k) (drop k bag) → k ≡ length bag - n
    → made ≡ greatest n (bag_of bag)
greatest_is n k bag kept made up is cut from =
    is ∙ cut ∙ take_rest bag k ∙ ap (λ m. drop m bag) from
    ∙ sym (ap (greatest n) (bag_of-settled bag up))
