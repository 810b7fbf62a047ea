-- The greatest members are what their four nodes give.
use Rattle.std.proofs.Common.{◌≡◌, ℕ, true, false, List, [], ◌∷◌, map, Option, Some, None, refl, sym, ap, ◌∙◌, append-nil}
use Rattle.std.specs.List.{flat_map}
use Rattle.std.specs.Option.{option_to_list}
use Rattle.bag_groups.specs.Combining.{combined_each, group_of, traps_of_each}
use Rattle.bag_groups.specs.Groups.{grouped}
use Rattle.bag_groups.proofs.Grouping.{grouped-bag_of}
use Rattle.bag_step_laws.specs.Derived.{listed_values, pair_under_zero as zero_under}
use Rattle.bag_step_laws.proofs.Tops.{listed-top, top-traps}
use Rattle.bag_steps.proofs.RowOrder.{greatest-IsSorted}
use Rattle.flume_value.proofs.BagLemmas.{bag_of-settled}
use Rattle.combine_table.specs.Combinations.{combined, greatest}
use Rattle.combine_table.specs.declared.comb.Comb.TheVariants as by
use Rattle.flume_value.specs.Bag.{bag_of}
use Rattle.flume_value.specs.declared.value.Value.{Value}
use Rattle.flume_collection.specs.declared.trap.Trap.{Trap}
use Rattle.flume_collection.specs.Calls.{trap_named}
use Rattle.flume_collection.specs.Collection.{Collection, by_key, unless_trapped}
use Rattle.flume_collection.specs.Traps.{trap_set}
use Rattle.flume_collection.proofs.Together.{same_collection}
use Rattle.exec_graph.specs.Derived.{members_in, spread, under_zero}
use Rattle.exec_graph.specs.Meaning.{through}
use Rattle.exec_graph.specs.World.{World}
use Rattle.exec_graph.specs.declared.step.Does.TheVariants as does
use Rattle.exec_graph.proofs.StepFacts.{called_is}
use Rattle.direct_meaning.specs.Direct.{combined_by, top_by}
use Rattle.build_law.proofs.Passing.{each_one, only_label, through_combined, through_given}

members_listed : (o : Option (Value × List Value))
    → members_in o ≡ flat_map (λ group. group.1) (option_to_list o)
members_listed None = refl
members_listed (Some group) = sym (append-nil group.1)

spread_listed : spread ≡ listed_values
spread_listed = λ i x. members_listed (group_of x) i

pub zeros_grouped : (bag : List Value)
    → grouped (bag_of (flat_map under_zero bag)) ≡ grouped (map zero_under bag)
zeros_grouped bag =
    grouped-bag_of (flat_map under_zero bag) ∙ ap grouped (each_one zero_under bag)

-- the groups of a collection under one key
abbrev pub under_one : List Value → List Trap → Collection
under_one bag traps = by_key (record { bag = bag_of (flat_map under_zero bag); traps = traps })

-- the greatest of it, spread
abbrev pub spread_of : Collection → Collection
spread_of c = record { bag = bag_of (flat_map spread c.bag); traps = trap_set c.traps }

top_are : (n many : ℕ) (traps : List Trap) (bag : List Value) → trap_set traps ≡ traps
    → bag_of bag ≡ bag
    → spread_of (combined_by n (by.Top many) (under_one bag traps))
    ≡ record { bag = unless_trapped traps (greatest many bag); traps = traps }
top_are n many [] bag h g =
    same_collection _ _ _ _
    (ap bag_of
    ((λ i. flat_map (spread_listed i)
    (combined_each (combined (by.Top many)) (zeros_grouped bag i)))
    ∙ listed-top many bag)
    ∙ bag_of-settled (greatest many (bag_of bag)) (greatest-IsSorted many bag)
    ∙ ap (greatest many) g)
    (ap (λ ts. trap_set (trap_set (map (trap_named n) ts)))
    (ap (traps_of_each (combined (by.Top many))) (zeros_grouped bag) ∙ top-traps many bag))
top_are n many (trap ∷ traps) bag h g =
    same_collection _ _ _ _ refl
    (ap (λ ts. trap_set (trap_set ts)) (append-nil (trap ∷ traps)) ∙ ap trap_set h ∙ h)

pub top_is : (w : World) (n many : ℕ) (c : Collection) → trap_set c.traps ≡ c.traps
    → bag_of c.bag ≡ c.bag
    → through w (only_label n true does.Spread)
    (through w (only_label n false (does.Combine (by.Top many)))
    (by_key (through w (only_label n false does.Solo) c)))
    ≡ top_by many c
top_is w n many c h g =
    through_given w n true does.Spread spread (called_is does.Spread w)
    (through w (only_label n false (does.Combine (by.Top many)))
    (by_key (through w (only_label n false does.Solo) c)))
    ∙ ap spread_of
    (through_combined w n false (by.Top many)
    (by_key (through w (only_label n false does.Solo) c))
    ∙ ap (λ d. combined_by n (by.Top many) (by_key d))
    (through_given w n false does.Solo under_zero (called_is does.Solo w) c
    ∙ same_collection _ _ _ _ refl h))
    ∙ top_are n many c.traps c.bag h g
