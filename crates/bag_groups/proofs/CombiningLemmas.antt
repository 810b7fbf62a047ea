-- Combining group by group.
use Rattle.std.proofs.Common.{◌≡◌, List, [], ◌∷◌, ◌++◌, Option, Some, None, refl, sym, ap, ◌∙◌}
use Rattle.std.specs.Prelude.{Result, Ok, Err, option_map}
use Rattle.std.specs.List.{flat_map, cons_option}
use Rattle.std.specs.Option.{option_and_then}
use Rattle.std.proofs.lemmas.Grind.{flat_map-append}
use Rattle.std.proofs.lemmas.List.Elements.{filter_map-append}
use Rattle.flume_value.specs.declared.fault.Kind.{Kind}
use Rattle.flume_value.specs.declared.value.Value.{Value}
use Rattle.flume_value.specs.Bag.{bag_of}
use Rattle.flume_value.specs.Parts.{members_of}
use Rattle.flume_value.proofs.BagLemmas.{bag_of-sum}
use Rattle.bag_groups.specs.Pairs.{pair, parts_of, key_of, value_of}
use Rattle.bag_groups.specs.Combining.{combined_each, combined_pair, group_of, groups_in, trapped_key, traps_of_each}
use Rattle.bag_groups.proofs.PairLemmas.{Parts, key_of-pair}

abbrev pub Group : Type 0
Group = Value × List Value

abbrev pub Combiner : Type 0
Combiner = List Value → Result Value Kind

-- what a group gives, and its trap
abbrev pub given : Combiner → Group → List Value
given f group = combined_pair group.0 (f (bag_of group.1))

abbrev pub trapped : Combiner → Group → List (Kind × Value)
trapped f group = trapped_key group.0 (f (bag_of group.1))

pub combined_each-append : (f : Combiner) (xs ys : List Value)
    → combined_each f (xs ++ ys) ≡ bag_of (combined_each f xs ++ combined_each f ys)
combined_each-append f xs ys =
    ap (λ groups. bag_of (flat_map (given f) groups)) (filter_map-append group_of xs ys)
    ∙ ap bag_of (flat_map-append (given f) (groups_in xs) (groups_in ys))
    ∙ sym (bag_of-sum (flat_map (given f) (groups_in xs)) (flat_map (given f) (groups_in ys)))

pub traps_of_each-append : (f : Combiner) (xs ys : List Value)
    → traps_of_each f (xs ++ ys) ≡ traps_of_each f xs ++ traps_of_each f ys
traps_of_each-append f xs ys =
    ap (flat_map (trapped f)) (filter_map-append group_of xs ys)
    ∙ flat_map-append (trapped f) (groups_in xs) (groups_in ys)

-- ---- the parts of a group

listed_as : (k : Value) (list : Option (List Value)) (group : Group)
    → option_map (λ l. (k, l)) list ≡ Some group → (k ≡ group.0) × (list ≡ Some group.1)
listed_as k None group e = cc e
listed_as k (Some l) group e =
    let same : ◌≡◌ {A = Group} (k, l) group = cc in
    (ap (λ (g : Group). g.0) same, ap (λ (g : Group). Some g.1) same)

abbrev as_group : Parts → Option Group
as_group it = option_map (λ l. (it.0, l)) (members_of it.1)

parts_as : (parts : Option Parts) (group : Group) → option_and_then as_group parts ≡ Some group
    → option_map (λ it. it.0) parts ≡ Some group.0
parts_as None group e = cc e
parts_as (Some it) group e = ap Some (listed_as it.0 (members_of it.1) group e).0

-- the key of a group is that of the pair
group-key : (g : Value) (group : Group) → group_of g ≡ Some group → key_of g ≡ Some group.0
group-key g group e = parts_as (parts_of g) group e

group_as : (parts : Option Parts) (k v : Value) (list : Option (List Value))
    → option_map (λ it. it.0) parts ≡ Some k → option_map (λ it. it.1) parts ≡ Some v
    → members_of v ≡ list → option_and_then as_group parts ≡ option_map (λ l. (k, l)) list
group_as None k v list first second is = cc first
group_as (Some it) k v list first second is =
    let key : it.0 ≡ k = cc in
    let held : it.1 ≡ v = cc in
    (λ i. option_map (λ l. (key i, l)) (members_of (held i)))
    ∙ ap (option_map (λ l. (k, l))) is

-- a pair of a key and a value is a group where the value is a list
pub group_by : (g k v : Value) (list : Option (List Value)) → key_of g ≡ Some k
    → value_of g ≡ Some v → members_of v ≡ list → group_of g ≡ option_map (λ l. (k, l)) list
group_by g k v list first second is = group_as (parts_of g) k v list first second is

-- ---- one group alone

one_kept : (k : Value) (r : Result Value Kind) (v : Value)
    → bag_of (combined_pair k r ++ []) ≡ v ∷ [] → (key_of v ≡ Some k) × (trapped_key k r ≡ [])
one_kept k (Ok w) v e =
    let same : pair k w ≡ v = cc in (sym (ap key_of same) ∙ key_of-pair k w, refl)
one_kept k (Err kind) v e = cc e

alone : (f : Combiner) (g v : Value) (group : Option Group) → group_of g ≡ group
    → bag_of (flat_map (given f) (cons_option group [])) ≡ v ∷ []
    → (key_of v ≡ key_of g) × (flat_map (trapped f) (cons_option group []) ≡ [])
alone f g v None is e = cc e
alone f g v (Some group) is e =
    let kept = one_kept group.0 (f (bag_of group.1)) v e in
    (kept.0 ∙ sym (group-key g group is), ap (λ l. l ++ []) kept.1)

-- a group that gives a pair keeps its key, and has no trap
pub one_given : (f : Combiner) (g v : Value) → combined_each f (g ∷ []) ≡ v ∷ []
    → (key_of v ≡ key_of g) × (traps_of_each f (g ∷ []) ≡ [])
one_given f g v e = alone f g v (group_of g) refl e
