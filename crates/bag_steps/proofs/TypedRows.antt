-- The types of counts, of joins, and of the greatest members.
use Rattle.std.proofs.Common.{◌-◌, ◌&&◌, ℕ, true, false, if◌then◌else◌, ℤ, pos, List, [], ◌∷◌, ◌++◌, length, map, refl, ◌∙◌}
use Rattle.std.specs.Prelude.{Ok, Err, codes, filter}
use Rattle.std.specs.List.{AllByRecursion as Each, flat_map}
use Rattle.std.proofs.lemmas.List.Elements.{All-from_recursion}
use Rattle.flume_value.specs.declared.fault.Kind.TheVariants.{Overflow}
use Rattle.flume_value.specs.declared.value.Value.{Value}
use Rattle.flume_value.specs.declared.value.Value.TheVariants as variant
use Rattle.flume_value.specs.Bag.{bag_of}
use Rattle.flume_value.specs.Equality.{value_eq}
use Rattle.flume_value.specs.Ranges.{fits_int}
use Rattle.flume_value.proofs.BagLemmas.{Each-bag_of}
use Rattle.flume_value.proofs.BoolLemmas.{and_both}
use Rattle.flume_value.proofs.EachLemmas.{each_from, Each-append, Each-drop, Each-filter, Each-map, Each-weaker}
use Rattle.flume_types.specs.declared.types.Ty.{Ty}
use Rattle.flume_types.specs.declared.types.Ty.TheVariants as ty
use Rattle.flume_types.specs.Tables.{table_of}
use Rattle.flume_types.specs.Typing.{AllHave, Has, has_type}
use Rattle.flume_types.proofs.PartLemmas.{has_int, has_list}
use Rattle.flume_types.proofs.TypingLemmas.{has_type-Rec}
use Rattle.keyed_steps.specs.of_bag_groups.Pairs.{pair, pairs_of}
use Rattle.keyed_steps.specs.of_bag_groups.Groups.{distinct, keys_of, values_of}
use Rattle.keyed_steps.specs.of_bag_groups.Combining.{combined_pair}
use Rattle.keyed_steps.proofs.of_bag_groups.MemberLemmas.{Each-distinct}
use Rattle.keyed_steps.proofs.of_bag_groups.PairLemmas.{Parts}
use Rattle.keyed_steps.specs.of_combine_table.Combinations.{greatest, int_or_overflow, wrapped}
use Rattle.keyed_steps.proofs.TypedFacts.{HaveParts, Has-pair, pairs_have}
use Rattle.bag_steps.specs.Counts.{counted, count_of_value}
use Rattle.bag_steps.specs.Joins.{joined, sides}
use Rattle.bag_steps.specs.Sides.{sides_of}

-- ---- counts

count_has : (t : Ty) (v : Value) (n : ℤ) → Has t v
    → Each (Has (table_of t ty.Int)) (combined_pair v (int_or_overflow n))
count_has t v n h =
    elim (fits_int n) as (λ b. Each (Has (table_of t ty.Int))
    (combined_pair v (if b then Ok (variant.Int n) else Err Overflow))) [
      | true ↦ (Has-pair t ty.Int v (variant.Int n) h (has_int n), tt)
      | false ↦ tt
    ]

counts_have : (t : Ty) (bag vs : List Value) → Each (Has t) vs
    → Each (Has (table_of t ty.Int)) (flat_map (λ v. combined_pair v (count_of_value bag v)) vs)
counts_have t bag [] e = tt
counts_have t bag (v ∷ vs) e =
    Each-append (Has (table_of t ty.Int)) (combined_pair v (count_of_value bag v))
    (flat_map (λ w. combined_pair w (count_of_value bag w)) vs)
    (count_has t v (wrapped (pos _)) e.0) (counts_have t bag vs e.1)

pub counted-typed : (t : Ty) (bag : List Value) → AllHave t bag
    → AllHave (table_of t ty.Int) (counted bag)
counted-typed t bag all =
    All-from_recursion (Has (table_of t ty.Int)) (counted bag)
    (counts_have t bag (distinct (bag_of bag))
    (Each-distinct (Has t) (bag_of bag)
    (Each-bag_of (Has t) bag (each_from (Has t) bag all))))

-- ---- joins

values_have : (key value : Ty) (k : Value) (ps : List Parts) → Each (HaveParts key value) ps
    → Each (Has value) (values_of k ps)
values_have key value k ps e =
    let of_key = filter (λ (p : Parts). value_eq p.0 k) ps in
    Each-bag_of (Has value) (map (λ (p : Parts). p.1) of_key)
    (Each-map (Has value) (λ (p : Parts). p.1) of_key
    (Each-filter (λ (p : Parts). Has value p.1) (λ p. value_eq p.0 k) ps
    (Each-weaker (HaveParts key value) (λ p. Has value p.1) (λ p h. h.1) ps e)))

keys_have : (key value : Ty) (ps : List Parts) → Each (HaveParts key value) ps
    → Each (λ (p : Parts). Has key p.0) ps
keys_have key value ps e = Each-weaker (HaveParts key value) (λ p. Has key p.0) (λ p h. h.0) ps e

Has-sides : (left right : Ty) (xs ys : List Value) → Each (Has left) xs → Each (Has right) ys
    → Has (sides_of left right) (sides xs ys)
Has-sides left right xs ys g h =
    has_type-Rec (variant.List xs ∷ variant.List ys ∷ [])
    (record { name = codes "left"; ty = ty.List left }
    ∷ record { name = codes "right"; ty = ty.List right } ∷ [])
    ∙ and_both (has_type (variant.List xs) (ty.List left))
    (has_type (variant.List ys) (ty.List right) && true) (has_list left xs g)
    (and_both (has_type (variant.List ys) (ty.List right)) true (has_list right ys h) refl)

module _ (key left right : Ty) (xs ys : List Value)
    (all : AllHave (table_of key left) xs) (all' : AllHave (table_of key right) ys) where
  abbrev ps : List Parts
  ps = pairs_of xs

  abbrev qs : List Parts
  qs = pairs_of ys

  lefts : Each (HaveParts key left) ps
  lefts = pairs_have key left xs (each_from (Has (table_of key left)) xs all)

  rights : Each (HaveParts key right) qs
  rights = pairs_have key right ys (each_from (Has (table_of key right)) ys all')

  all_keys : Each (Has key) (keys_of (ps ++ qs))
  all_keys =
      let keys = map (λ (p : Parts). p.0) (ps ++ qs) in
      Each-distinct (Has key) (bag_of keys)
      (Each-bag_of (Has key) keys
      (Each-map (Has key) (λ (p : Parts). p.0) (ps ++ qs)
      (Each-append (λ (p : Parts). Has key p.0) ps qs (keys_have key left ps lefts)
      (keys_have key right qs rights))))

  pub joined-typed : AllHave (table_of key (sides_of left right)) (joined xs ys)
  joined-typed =
      let row : Value → Value = λ k. pair k (sides (values_of k ps) (values_of k qs)) in
      let T = table_of key (sides_of left right) in
      All-from_recursion (Has T) (joined xs ys)
      (Each-map (Has T) row (keys_of (ps ++ qs))
      (Each-weaker (Has key) (λ k. Has T (row k))
      (λ k h. Has-pair key (sides_of left right) k (sides (values_of k ps) (values_of k qs)) h
      (Has-sides left right (values_of k ps) (values_of k qs) (values_have key left k ps lefts)
      (values_have key right k qs rights))) (keys_of (ps ++ qs)) all_keys))

-- ---- the greatest

pub greatest-typed : (n : ℕ) (t : Ty) (bag : List Value) → AllHave t bag
    → AllHave t (greatest n (bag_of bag))
greatest-typed n t bag all =
    All-from_recursion (Has t) (greatest n (bag_of bag))
    (Each-drop (Has t) (length (bag_of bag) - n) (bag_of bag)
    (Each-bag_of (Has t) bag (each_from (Has t) bag all)))
