-- All members as one value are what their four nodes give.
use Rattle.std.proofs.Common.{◌≡◌, ℕ, pos, false, List, [], ◌∷◌, ◌++◌, map, Result, Ok, Err, refl, ap, ◌∙◌, append-nil}
use Rattle.std.specs.Prelude.{option_map}
use Rattle.bag_groups.specs.Combining.{combined_each, combined_pair, trapped_key, traps_of_each}
use Rattle.bag_groups.proofs.PairLemmas.{Parts, parts_of-pair}
use Rattle.bag_step_laws.proofs.Wholes.{whole-pair, whole-trap}
use Rattle.combine_table.specs.Combinations.{combined}
use Rattle.combine_table.specs.declared.comb.Comb.{Comb}
use Rattle.flume_value.specs.Bag.{bag_of}
use Rattle.flume_value.specs.declared.value.Value.{Value}
use Rattle.flume_value.specs.declared.value.Value.TheVariants as value
use Rattle.flume_value.specs.declared.fault.Kind.{Kind}
use Rattle.flume_collection.specs.declared.trap.Trap.{Trap}
use Rattle.flume_collection.specs.Calls.{trap_named}
use Rattle.flume_collection.specs.Collection.{Collection, by_key}
use Rattle.flume_collection.specs.Traps.{trap_set}
use Rattle.flume_collection.proofs.Together.{same_collection}
use Rattle.exec_graph.specs.Derived.{under_zero}
use Rattle.exec_graph.specs.Meaning.{through}
use Rattle.exec_graph.specs.Objects.{act_result, or_of_nothing, singleton_value, whole_combined}
use Rattle.exec_graph.specs.World.{World}
use Rattle.exec_graph.specs.declared.graph.Act.TheVariants.{Singleton}
use Rattle.exec_graph.specs.declared.step.Does.TheVariants as does
use Rattle.exec_graph.proofs.Barriers.{barrier_singleton}
use Rattle.exec_graph.proofs.StepFacts.{called_is}
use Rattle.direct_meaning.specs.Direct.{combined_by}
use Rattle.direct_meaning.specs.Objects.{combined_whole, object_as, whole_behind, whole_value}
use Rattle.build_law.proofs.Passing.{only_label, through_combined, through_given}
use Rattle.build_law.proofs.Topping.{under_one, zeros_grouped}

-- ---- the value of the only pair

abbrev zero_key : Value
zero_key = value.Int (pos 0)

-- the pair of what a combination came to, or its trap
abbrev row_of : ℕ → Result Value Kind → Collection
row_of n r = record {
  bag = combined_pair zero_key r;
  traps = trap_set (map (trap_named n) (trapped_key zero_key r));
}

row_is : (n : ℕ) (k : Comb) (r : Result Value Kind)
    → singleton_value n k (row_of n r) ≡ object_as (whole_value n r)
row_is n k (Ok v) =
    ap (λ o. or_of_nothing n k (option_map (λ (it : Parts). it.1) o)) (parts_of-pair zero_key v)
row_is n k (Err kind) = refl

of_nothing : (n : ℕ) (r : Result Value Kind) → whole_combined n r ≡ object_as (whole_value n r)
of_nothing n (Ok v) = refl
of_nothing n (Err kind) = refl

-- what is combined of some members with no trap behind them
some_is : (n : ℕ) (k : Comb) (x : Value) (xs : List Value) → bag_of (x ∷ xs) ≡ x ∷ xs
    → combined_by n k (under_one (x ∷ xs) []) ≡ row_of n (combined k (x ∷ xs))
some_is n k x xs g =
    same_collection _ _ _ _
    (ap (combined_each (combined k)) (zeros_grouped (x ∷ xs))
    ∙ whole-pair (combined k) x xs
    ∙ ap (λ bag. combined_pair zero_key (combined k bag)) g)
    (ap (λ ts. trap_set (map (trap_named n) ts))
    (ap (traps_of_each (combined k)) (zeros_grouped (x ∷ xs))
    ∙ whole-trap (combined k) x xs
    ∙ ap (λ bag. trapped_key zero_key (combined k bag)) g))

value_is : (n : ℕ) (k : Comb) (traps : List Trap) (bag : List Value) → trap_set traps ≡ traps
    → bag_of bag ≡ bag
    → singleton_value n k (combined_by n k (under_one bag traps))
    ≡ whole_behind n traps (combined k bag)
value_is n k [] [] h g = of_nothing n (combined k [])
value_is n k [] (x ∷ xs) h g =
    ap (singleton_value n k) (some_is n k x xs g) ∙ row_is n k (combined k (x ∷ xs))
value_is n k (trap ∷ traps) bag h g =
    let same : trap_set (trap ∷ traps ++ []) ≡ trap ∷ traps =
    ap trap_set (append-nil (trap ∷ traps)) ∙ h in
    ap (λ ts. singleton_value n k (record { bag = []; traps = ts })) same
    ∙ same_collection _ _ _ _ refl same

pub whole_is : (w : World) (n : ℕ) (k : Comb) (c : Collection) → trap_set c.traps ≡ c.traps
    → bag_of c.bag ≡ c.bag
    → act_result w n (Singleton k)
    (through w (only_label n false (does.Combine k))
    (by_key (through w (only_label n false does.Solo) c)) ∷ [])
    ≡ combined_whole n k c
whole_is w n k c h g =
    barrier_singleton w n k
    (through w (only_label n false (does.Combine k))
    (by_key (through w (only_label n false does.Solo) c)))
    ∙ ap (singleton_value n k)
    (through_combined w n false k (by_key (through w (only_label n false does.Solo) c))
    ∙ ap (λ d. combined_by n k (by_key d))
    (through_given w n false does.Solo under_zero (called_is does.Solo w) c
    ∙ same_collection _ _ _ _ refl h))
    ∙ value_is n k c.traps c.bag h g
