-- The greatest members by one group of all.
use Rattle.std.proofs.Common.{◌≡◌, ◌-◌, ℕ, pos, true, List, [], ◌∷◌, ◌++◌, map, refl, sym, ap, ◌∙◌, append-nil, arith}
use Rattle.std.specs.Prelude.{Ok}
use Rattle.std.specs.List.{AllByRecursion as Each, flat_map}
use Rattle.std.specs.Option.{option_to_list}
use Rattle.std.proofs.lemmas.List.{drop_all}
use Rattle.flume_value.specs.declared.value.Value.{Value}
use Rattle.flume_value.specs.declared.value.Value.TheVariants as value
use Rattle.flume_value.specs.Bag.{bag_of}
use Rattle.flume_value.specs.Equality.{value_eq}
use Rattle.bag_groups.specs.Pairs.{pair, pairs_of}
use Rattle.bag_groups.specs.Groups.{distinct, grouped, keys_of, values_of}
use Rattle.bag_groups.specs.Combining.{combined_each, combined_pair, trapped_key, traps_of_each}
use Rattle.bag_groups.proofs.MemberLemmas.{filter_all}
use Rattle.bag_groups.proofs.PairLemmas.{Parts}
use Rattle.bag_groups.proofs.PairOrder.{value_eq-same}
use Rattle.combine_table.specs.declared.comb.Comb.TheVariants as by
use Rattle.combine_table.specs.Combinations.{combined, greatest}
use Rattle.bag_steps.proofs.RunLemmas.{AreAll, distinct_bag-ahead}
use Rattle.bag_step_laws.specs.Derived.{listed_values, pair_under_zero}
use Rattle.bag_step_laws.proofs.GroupRows.{combined-grouped, group_of-pair, made_parts, traps-grouped}

abbrev pub zero_key : Value
zero_key = value.Int (pos 0)

abbrev parts_under : Value → Parts
parts_under v = (zero_key, v)

all_zero : (xs : List Value) → AreAll zero_key (map (λ (p : Parts). p.0) (map parts_under xs))
all_zero [] = tt
all_zero (x ∷ xs) = (refl, all_zero xs)

-- one key, where there is a member
pub keys-under : (x : Value) (xs : List Value)
    → keys_of (pairs_of (map pair_under_zero (x ∷ xs))) ≡ zero_key ∷ []
keys-under x xs =
    let keys = map (λ (p : Parts). p.0) (map parts_under (x ∷ xs)) in
    ap keys_of (made_parts parts_under (x ∷ xs))
    ∙ ap (λ l. distinct (bag_of l)) (sym (append-nil keys))
    ∙ distinct_bag-ahead zero_key keys [] (all_zero (x ∷ xs)) tt tt (omega arith)

all_keyed : (xs : List Value)
    → Each (λ (p : Parts). value_eq p.0 zero_key ≡ true) (map parts_under xs)
all_keyed [] = tt
all_keyed (x ∷ xs) = (value_eq-same zero_key zero_key refl, all_keyed xs)

held-under : (xs : List Value) → map (λ (p : Parts). p.1) (map parts_under xs) ≡ xs
held-under [] = refl
held-under (x ∷ xs) = ap (λ l. x ∷ l) (held-under xs)

pub values-under : (xs : List Value)
    → values_of zero_key (pairs_of (map pair_under_zero xs)) ≡ bag_of xs
values-under xs =
    ap (values_of zero_key) (made_parts parts_under xs)
    ∙ ap (λ l. bag_of (map (λ (p : Parts). p.1) l))
    (filter_all (λ (p : Parts). value_eq p.0 zero_key) (map parts_under xs) (all_keyed xs))
    ∙ ap bag_of (held-under xs)

-- ---- the group's row

listed-pair : (k : Value) (vs : List Value) → listed_values (pair k (value.List vs)) ≡ vs
listed-pair k vs =
    ap (λ o. flat_map (λ (g : Value × List Value). g.1) (option_to_list o)) (group_of-pair k vs)
    ∙ append-nil vs

pub listed-top : (n : ℕ) (xs : List Value)
    → flat_map listed_values (combined_each (combined (by.Top n))
    (grouped (map pair_under_zero xs)))
    ≡ greatest n (bag_of xs)
listed-top n [] = sym (drop_all (0 - n) [] (omega arith))
listed-top n (x ∷ xs) =
    let made : List Value → Value → List Value
    = λ vs k. combined_pair k (Ok (value.List (greatest n vs))) in
    ap (flat_map listed_values)
    (combined-grouped (combined (by.Top n)) (map pair_under_zero (x ∷ xs))
    ∙ ap (flat_map (λ k. made (values_of k (pairs_of (map pair_under_zero (x ∷ xs)))) k))
    (keys-under x xs)
    ∙ ap (λ vs. made vs zero_key ++ []) (values-under (x ∷ xs)))
    ∙ append-nil (listed_values (pair zero_key (value.List (greatest n (bag_of (x ∷ xs))))))
    ∙ listed-pair zero_key (greatest n (bag_of (x ∷ xs)))

none_trapped : (ks : List Value) (F : Value → Value)
    → flat_map (λ k. trapped_key k (Ok (F k))) ks ≡ []
none_trapped [] F = refl
none_trapped (k ∷ ks) F = none_trapped ks F

pub top-traps : (n : ℕ) (xs : List Value)
    → traps_of_each (combined (by.Top n)) (grouped (map pair_under_zero xs)) ≡ []
top-traps n xs =
    traps-grouped (combined (by.Top n)) (map pair_under_zero xs)
    ∙ none_trapped (keys_of (pairs_of (map pair_under_zero xs)))
    (λ k. value.List (greatest n (values_of k (pairs_of (map pair_under_zero xs)))))
