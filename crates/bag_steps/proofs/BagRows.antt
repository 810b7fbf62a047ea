-- Counts and joins depend on the bags alone.
use Rattle.std.proofs.Common.{◌≡◌, Bool, true, false, cond, pos, List, [], ◌∷◌, ◌++◌, map, refl, sym, ap, ◌∙◌}
use Rattle.std.specs.Prelude.{filter}
use Rattle.std.specs.List.{flat_map}
use Rattle.std.proofs.lemmas.List.{map-append}
use Rattle.std.proofs.lemmas.List.Concat.{flat_map_single}
use Rattle.flume_value.specs.declared.value.Value.{Value}
use Rattle.flume_value.specs.Bag.{bag_of}
use Rattle.flume_value.specs.Equality.{value_eq}
use Rattle.flume_value.proofs.BagLemmas.{bag_of-sum, bag_of-twice, times-bag_of}
use Rattle.keyed_steps.specs.of_bag_groups.Pairs.{pair, parts_of, pairs_of}
use Rattle.keyed_steps.specs.of_bag_groups.Groups.{distinct, keys_of, values_of}
use Rattle.keyed_steps.specs.of_bag_groups.Combining.{combined_pair, trapped_key}
use Rattle.keyed_steps.proofs.of_bag_groups.BagParts.{chosen-bag_of}
use Rattle.keyed_steps.proofs.of_bag_groups.PairLemmas.{Parts}
use Rattle.keyed_steps.specs.of_combine_table.Combinations.{int_or_overflow, wrapped}
use Rattle.bag_steps.specs.Counts.{counted, counted_traps}
use Rattle.bag_steps.specs.Joins.{joined, sides}

pub counted-bag_of : (xs : List Value) → counted (bag_of xs) ≡ counted xs
counted-bag_of xs =
    λ i. flat_map (λ v. combined_pair v (int_or_overflow (wrapped (pos (times-bag_of xs v i)))))
    (distinct (bag_of-twice xs i))

pub counted_traps-bag_of : (xs : List Value) → counted_traps (bag_of xs) ≡ counted_traps xs
counted_traps-bag_of xs =
    λ i. flat_map (λ v. trapped_key v (int_or_overflow (wrapped (pos (times-bag_of xs v i)))))
    (distinct (bag_of-twice xs i))

-- ---- joins

map_filter-flat : {A B : Type 0} (f : A → B) (keep : A → Bool) (xs : List A)
    → map f (filter keep xs) ≡ flat_map (λ x. cond (keep x) (f x ∷ []) []) xs
map_filter-flat f keep [] = refl
map_filter-flat f keep (x ∷ xs) =
    elim (keep x) as (λ b. map f (cond b (x ∷ filter keep xs) (filter keep xs))
    ≡ cond b (f x ∷ []) [] ++ flat_map (λ y. cond (keep y) (f y ∷ []) []) xs) [
      | true ↦ ap (λ l. f x ∷ l) (map_filter-flat f keep xs)
      | false ↦ map_filter-flat f keep xs
    ]

values_of-bag : (k : Value) (xs : List Value)
    → values_of k (pairs_of (bag_of xs)) ≡ values_of k (pairs_of xs)
values_of-bag k xs =
    let held : Parts → Value = λ p. p.1 in
    let of_key : Parts → Bool = λ p. value_eq p.0 k in
    ap bag_of (map_filter-flat held of_key (pairs_of (bag_of xs)))
    ∙ chosen-bag_of parts_of (λ p. cond (of_key p) (held p ∷ []) []) xs
    ∙ sym (ap bag_of (map_filter-flat held of_key (pairs_of xs)))

abbrev keys : List Value → List Value
keys xs = map (λ (p : Parts). p.0) (pairs_of xs)

keys-bag : (xs : List Value) → bag_of (keys (bag_of xs)) ≡ bag_of (keys xs)
keys-bag xs =
    let key : Parts → Value = λ p. p.0 in
    ap bag_of (sym (flat_map_single key (pairs_of (bag_of xs))))
    ∙ chosen-bag_of parts_of (λ p. key p ∷ []) xs
    ∙ ap bag_of (flat_map_single key (pairs_of xs))

both_keys : (xs ys : List Value)
    → keys_of (pairs_of xs ++ pairs_of ys)
    ≡ distinct (bag_of (bag_of (keys xs) ++ bag_of (keys ys)))
both_keys xs ys =
    ap (λ l. distinct (bag_of l)) (map-append (λ (p : Parts). p.0) (pairs_of xs) (pairs_of ys))
    ∙ ap distinct (sym (bag_of-sum (keys xs) (keys ys)))

pub joined-bag_of : (xs ys : List Value) → joined (bag_of xs) (bag_of ys) ≡ joined xs ys
joined-bag_of xs ys =
    let same : keys_of (pairs_of (bag_of xs) ++ pairs_of (bag_of ys))
    ≡ keys_of (pairs_of xs ++ pairs_of ys)
    = both_keys (bag_of xs) (bag_of ys)
    ∙ (λ i. distinct (bag_of (keys-bag xs i ++ keys-bag ys i))) ∙ sym (both_keys xs ys) in
    λ i. map (λ k. pair k (sides (values_of-bag k xs i) (values_of-bag k ys i))) (same i)
