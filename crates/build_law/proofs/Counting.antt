-- A count is what its three nodes give.
use Rattle.std.proofs.Common.{◌≡◌, ℕ, true, false, List, [], ◌∷◌, map, refl, ap, ◌∙◌, append-nil}
use Rattle.std.specs.List.{flat_map}
use Rattle.bag_groups.specs.Combining.{combined_each, traps_of_each}
use Rattle.bag_groups.specs.Groups.{grouped}
use Rattle.bag_groups.proofs.Grouping.{grouped-bag_of}
use Rattle.bag_step_laws.specs.Derived.{pair_with_one as one_with}
use Rattle.bag_step_laws.proofs.Counting.{counted-ones, counted-traps}
use Rattle.combine_table.specs.Combinations.{combined}
use Rattle.combine_table.specs.declared.comb.Comb.TheVariants as by
use Rattle.flume_value.specs.Bag.{bag_of}
use Rattle.flume_value.specs.declared.value.Value.{Value}
use Rattle.flume_collection.specs.declared.trap.Trap.{Trap}
use Rattle.flume_collection.specs.Calls.{trap_named}
use Rattle.flume_collection.specs.Collection.{Collection, by_key}
use Rattle.flume_collection.specs.Traps.{trap_set}
use Rattle.flume_collection.proofs.Together.{same_collection}
use Rattle.exec_graph.specs.Derived.{with_one}
use Rattle.exec_graph.specs.Meaning.{through}
use Rattle.exec_graph.specs.World.{World}
use Rattle.exec_graph.specs.declared.step.Does.TheVariants as does
use Rattle.exec_graph.proofs.StepFacts.{called_is}
use Rattle.direct_meaning.specs.Direct.{combined_by, counted_by, counts_behind}
use Rattle.build_law.proofs.Passing.{each_one, only_label, through_combined, through_given}

ones_grouped : (bag : List Value)
    → grouped (bag_of (flat_map with_one bag)) ≡ grouped (map one_with bag)
ones_grouped bag =
    grouped-bag_of (flat_map with_one bag) ∙ ap grouped (each_one one_with bag)

counts_are : (n : ℕ) (traps : List Trap) (bag : List Value) → trap_set traps ≡ traps
    → combined_by n by.Sum (by_key (record { bag = bag_of (flat_map with_one bag); traps = traps }))
    ≡ counts_behind n traps bag
counts_are n [] bag h =
    same_collection _ _ _ _
    (ap (combined_each (combined by.Sum)) (ones_grouped bag) ∙ counted-ones bag)
    (ap (λ ts. trap_set (map (trap_named n) ts))
    (ap (traps_of_each (combined by.Sum)) (ones_grouped bag) ∙ counted-traps bag))
counts_are n (trap ∷ traps) bag h =
    same_collection _ _ _ _ refl (ap trap_set (append-nil (trap ∷ traps)) ∙ h)

pub count_is : (w : World) (n : ℕ) (c : Collection) → trap_set c.traps ≡ c.traps
    → through w (only_label n true (does.Combine by.Sum))
    (by_key (through w (only_label n false does.Pair) c))
    ≡ counted_by n c
count_is w n c h =
    through_combined w n true by.Sum (by_key (through w (only_label n false does.Pair) c))
    ∙ ap (λ d. combined_by n by.Sum (by_key d))
    (through_given w n false does.Pair with_one (called_is does.Pair w) c
    ∙ same_collection _ _ _ _ refl h)
    ∙ counts_are n c.traps c.bag h
