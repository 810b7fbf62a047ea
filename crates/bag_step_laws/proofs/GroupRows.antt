-- Groups that are combined, or taken apart, key by key.
use Rattle.std.proofs.Common.{◌≡◌, List, [], ◌∷◌, ◌++◌, map, Some, refl, sym, ap, ◌∙◌}
use Rattle.std.specs.Prelude.{filter, option_map}
use Rattle.std.specs.List.{flat_map, cons_option}
use Rattle.flume_value.specs.declared.value.Value.{Value}
use Rattle.flume_value.specs.declared.value.Value.TheVariants as value
use Rattle.flume_value.specs.Bag.{bag_of}
use Rattle.flume_value.specs.Equality.{value_eq}
use Rattle.flume_value.specs.Parts.{list_layer}
use Rattle.flume_value.proofs.BagLemmas.{bag_of-settled, bag_of-twice}
use Rattle.bag_groups.specs.Pairs.{pair, pairs_of}
use Rattle.bag_groups.specs.Groups.{grouped, keys_of, values_of}
use Rattle.bag_groups.specs.Combining.{combined_each, combined_pair, group_of, groups_in, trapped_key, traps_of_each}
use Rattle.bag_groups.proofs.CombiningLemmas.{Combiner, Group, group_by}
use Rattle.bag_groups.proofs.PairLemmas.{Parts, packed, pairs_of-packed, parts_of-pair}
use Rattle.bag_steps.proofs.RowOrder.{rows_sorted}

pub map_map : {A B C : Type 0} (f : B → C) (g : A → B) (xs : List A)
    → map f (map g xs) ≡ map (λ x. f (g x)) xs
map_map f g [] = refl
map_map f g (x ∷ xs) = ap (λ l. f (g x) ∷ l) (map_map f g xs)

-- the parts of pairs that are made of such
pub made_parts : (make : Value → Parts) (xs : List Value)
    → pairs_of (map (λ v. packed (make v)) xs) ≡ map make xs
made_parts make xs = ap pairs_of (sym (map_map packed make xs)) ∙ pairs_of-packed (map make xs)

-- a pair of a key and a list is a group
pub group_of-pair : (k : Value) (vs : List Value) → group_of (pair k (value.List vs)) ≡ Some (k, vs)
group_of-pair k vs =
    group_by (pair k (value.List vs)) k (value.List vs) (Some vs)
    (ap (option_map (λ (it : Parts). it.0)) (parts_of-pair k (value.List vs)))
    (ap (option_map (λ (it : Parts). it.1)) (parts_of-pair k (value.List vs)))
    (ap list_layer (value.outs-List vs))

-- what is made of each group, where a key has the values F
module _ {B : Type 0} (F : Value → List Value) (made : Group → List B) where
  flat_map-groups : (ks : List Value)
      → flat_map made (groups_in (map (λ k. pair k (value.List (F k))) ks))
      ≡ flat_map (λ k. made (k, F k)) ks
  flat_map-groups [] = refl
  flat_map-groups (k ∷ ks) =
      ap (λ o. flat_map made (cons_option o (groups_in (map (λ j. pair j (value.List (F j))) ks))))
      (group_of-pair k (F k))
      ∙ ap (λ l. made (k, F k) ++ l) (flat_map-groups ks)

-- the values of a key are a bag's, in order
in_order : (k : Value) (ps : List Parts) → bag_of (values_of k ps) ≡ values_of k ps
in_order k ps = bag_of-twice (map (λ (p : Parts). p.1) (filter (λ p. value_eq p.0 k) ps))

pub combined-grouped : (f : Combiner) (xs : List Value)
    → combined_each f (grouped xs)
    ≡ flat_map (λ k. combined_pair k (f (values_of k (pairs_of xs)))) (keys_of (pairs_of xs))
combined-grouped f xs =
    let ps = pairs_of xs in
    let rows : List Value
    = flat_map (λ k. combined_pair k (f (values_of k ps))) (keys_of ps) in
    ap bag_of
    (flat_map-groups (λ k. values_of k ps) (λ g. combined_pair g.0 (f (bag_of g.1))) (keys_of ps)
    ∙ (λ i. flat_map (λ k. combined_pair k (f (in_order k ps i))) (keys_of ps)))
    ∙ bag_of-settled rows
    (rows_sorted (λ k. f (values_of k ps)) (map (λ (p : Parts). p.0) ps))

pub traps-grouped : (f : Combiner) (xs : List Value)
    → traps_of_each f (grouped xs)
    ≡ flat_map (λ k. trapped_key k (f (values_of k (pairs_of xs)))) (keys_of (pairs_of xs))
traps-grouped f xs =
    let ps = pairs_of xs in
    flat_map-groups (λ k. values_of k ps) (λ g. trapped_key g.0 (f (bag_of g.1))) (keys_of ps)
    ∙ (λ i. flat_map (λ k. trapped_key k (f (in_order k ps i))) (keys_of ps))
