-- Counts by groups of ones.
use Rattle.std.proofs.Common.{◌≡◌, ◌+◌, ℕ, suc, pos, ◌+ℤ◌, true, false, cond, List, [], ◌∷◌, length, map, refl, sym, ap, ◌∙◌, arith}
use Rattle.std.specs.Prelude.{Result, filter, unwrap_or}
use Rattle.std.specs.List.{AllByRecursion as Each, flat_map}
use Rattle.std.proofs.lemmas.List.{length-map}
use Rattle.flume_value.specs.declared.fault.Kind.{Kind}
use Rattle.flume_value.specs.declared.value.Value.{Value}
use Rattle.flume_value.specs.declared.value.Value.TheVariants as value
use Rattle.flume_value.specs.Bag.{bag_of, times}
use Rattle.flume_value.specs.Equality.{value_eq}
use Rattle.flume_value.specs.Parts.{int_layer}
use Rattle.flume_value.proofs.BagLemmas.{Each-bag_of, length-bag_of}
use Rattle.flume_value.proofs.EachLemmas.{Each-filter, Each-map}
use Rattle.bag_groups.specs.Pairs.{pairs_of}
use Rattle.bag_groups.specs.Groups.{distinct, grouped, keys_of, values_of}
use Rattle.bag_groups.specs.Combining.{combined_each, combined_pair, trapped_key, traps_of_each}
use Rattle.bag_groups.proofs.PairLemmas.{Parts}
use Rattle.combine_table.specs.declared.comb.Comb.TheVariants as by
use Rattle.combine_table.specs.Contents.{int_or_zero}
use Rattle.combine_table.specs.Combinations.{combined, int_or_overflow, int_total, wrapped}
use Rattle.bag_steps.specs.Counts.{counted, counted_traps}
use Rattle.bag_steps.proofs.RunLemmas.{times-cons}
use Rattle.bag_step_laws.specs.Derived.{pair_with_one}
use Rattle.bag_step_laws.proofs.GroupRows.{combined-grouped, made_parts, traps-grouped}

abbrev one : Value
one = value.Int (pos 1)

abbrev one_under : Value → Parts
one_under v = (v, one)

keys-ones : (xs : List Value) → map (λ (p : Parts). p.0) (map one_under xs) ≡ xs
keys-ones [] = refl
keys-ones (x ∷ xs) = ap (λ l. x ∷ l) (keys-ones xs)

-- ---- as many ones as the bag has of a value

count-ones : (k : Value) (xs : List Value)
    → length (filter (λ (p : Parts). value_eq p.0 k) (map one_under xs)) ≡ times xs k
count-ones k [] = refl
count-ones k (x ∷ xs) =
    let rest = filter (λ (p : Parts). value_eq p.0 k) (map one_under xs) in
    elim (value_eq x k) as (λ b. length (cond b (one_under x ∷ rest) rest)
    ≡ cond b 1 0 + times xs k) [
      | true ↦ omega (arith, count-ones k xs)
      | false ↦ omega (arith, count-ones k xs)
    ] ∙ sym (times-cons x xs k)

all-ones : (xs : List Value) → Each (λ (p : Parts). p.1 ≡ one) (map one_under xs)
all-ones [] = tt
all-ones (x ∷ xs) = (refl, all-ones xs)

int-one : int_or_zero one ≡ pos 1
int-one = ap (λ o. unwrap_or (int_layer o) (pos 0)) (value.outs-Int (pos 1))

add_one : (n : ℕ) → 1 + n ≡ suc n
add_one n = omega arith

total-ones : (vs : List Value) → Each (λ v. v ≡ one) vs → int_total vs ≡ pos (length vs)
total-ones [] e = refl
total-ones (v ∷ vs) e =
    ap (λ x. int_or_zero x +ℤ int_total vs) e.0
    ∙ (λ i. int-one i +ℤ total-ones vs e.1 i)
    ∙ ap pos (add_one (length vs))

module _ (k : Value) (xs : List Value) where
  abbrev of_key : List Parts
  of_key = filter (λ (p : Parts). value_eq p.0 k) (map one_under xs)

  abbrev ones : List Value
  ones = map (λ (p : Parts). p.1) of_key

  total-values : int_total (values_of k (map one_under xs)) ≡ pos (times xs k)
  total-values =
      total-ones (bag_of ones)
      (Each-bag_of (λ v. v ≡ one) ones
      (Each-map (λ v. v ≡ one) (λ (p : Parts). p.1) of_key
      (Each-filter (λ (p : Parts). p.1 ≡ one) (λ p. value_eq p.0 k) (map one_under xs)
      (all-ones xs))))
      ∙ ap pos (length-bag_of ones ∙ length-map of_key (λ p. p.1) ∙ count-ones k xs)

-- ---- what is made of each key

rows-of-ones : {B : Type 0} (H : Value → Result Value Kind → List B) (xs : List Value)
    → flat_map (λ k. H k (combined by.Sum (values_of k (pairs_of (map pair_with_one xs)))))
    (keys_of (pairs_of (map pair_with_one xs)))
    ≡ flat_map (λ k. H k (int_or_overflow (wrapped (pos (times xs k))))) (distinct (bag_of xs))
rows-of-ones H xs =
    (λ i. flat_map (λ k. H k (combined by.Sum (values_of k (made_parts one_under xs i))))
    (keys_of (made_parts one_under xs i)))
    ∙ (λ i. flat_map (λ k. H k (int_or_overflow (wrapped (total-values k xs i))))
    (distinct (bag_of (keys-ones xs i))))

pub counted-ones : (xs : List Value)
    → combined_each (combined by.Sum) (grouped (map pair_with_one xs)) ≡ counted xs
counted-ones xs =
    combined-grouped (combined by.Sum) (map pair_with_one xs) ∙ rows-of-ones combined_pair xs

pub counted-traps : (xs : List Value)
    → traps_of_each (combined by.Sum) (grouped (map pair_with_one xs)) ≡ counted_traps xs
counted-traps xs =
    traps-grouped (combined by.Sum) (map pair_with_one xs) ∙ rows-of-ones trapped_key xs
