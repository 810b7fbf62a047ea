-- All members of a bag as one group.
use Rattle.std.proofs.Common.{◌≡◌, pos, List, [], ◌∷◌, ◌++◌, map, ap, ◌∙◌, append-nil}
use Rattle.std.specs.List.{flat_map}
use Rattle.flume_value.specs.declared.value.Value.{Value}
use Rattle.flume_value.specs.declared.value.Value.TheVariants as value
use Rattle.flume_value.specs.Bag.{bag_of}
use Rattle.bag_groups.specs.Pairs.{pairs_of}
use Rattle.bag_groups.specs.Groups.{grouped, keys_of, values_of}
use Rattle.bag_groups.specs.Combining.{combined_each, combined_pair, trapped_key, traps_of_each}
use Rattle.bag_groups.proofs.CombiningLemmas.{Combiner}
use Rattle.bag_step_laws.specs.Derived.{pair_under_zero}
use Rattle.bag_step_laws.proofs.GroupRows.{combined-grouped, traps-grouped}
use Rattle.bag_step_laws.proofs.Tops.{keys-under, values-under}

-- what is made of the groups, where it is told by keys and their values
module _ {B : Type 0} (of_groups : List Value → List B) (made : Value → List Value → List B)
    (by_keys : (xs : List Value) → of_groups (grouped xs)
    ≡ flat_map (λ k. made k (values_of k (pairs_of xs))) (keys_of (pairs_of xs)))
    (x : Value) (xs : List Value) where
  whole : of_groups (grouped (map pair_under_zero (x ∷ xs)))
      ≡ made (value.Int (pos 0)) (bag_of (x ∷ xs))
  whole =
      let pairs = pairs_of (map pair_under_zero (x ∷ xs)) in
      by_keys (map pair_under_zero (x ∷ xs))
      ∙ ap (flat_map (λ k. made k (values_of k pairs))) (keys-under x xs)
      ∙ ap (λ vs. made (value.Int (pos 0)) vs ++ []) (values-under (x ∷ xs))
      ∙ append-nil (made (value.Int (pos 0)) (bag_of (x ∷ xs)))

pub whole-pair : (f : Combiner) (x : Value) (xs : List Value)
    → combined_each f (grouped (map pair_under_zero (x ∷ xs)))
    ≡ combined_pair (value.Int (pos 0)) (f (bag_of (x ∷ xs)))
whole-pair f = whole (combined_each f) (λ k vs. combined_pair k (f vs)) (combined-grouped f)

pub whole-trap : (f : Combiner) (x : Value) (xs : List Value)
    → traps_of_each f (grouped (map pair_under_zero (x ∷ xs)))
    ≡ trapped_key (value.Int (pos 0)) (f (bag_of (x ∷ xs)))
whole-trap f = whole (traps_of_each f) (λ k vs. trapped_key k (f vs)) (traps-grouped f)
