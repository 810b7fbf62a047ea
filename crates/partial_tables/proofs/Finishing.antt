-- The accumulators of the keys' values finish as the groups combine.
use Rattle.std.proofs.Common.{◌≡◌, Option, Some, List, [], ◌∷◌, map, refl, sym, ap, ◌∙◌}
use Rattle.std.specs.Prelude.{option_map}
use Rattle.std.specs.List.{cons_option}
use Rattle.std.specs.Option.{option_and_then}
use Rattle.flume_value.specs.declared.value.Value.{Value}
use Rattle.flume_value.specs.declared.value.Value.TheVariants as value
use Rattle.flume_value.specs.Bag.{bag_of}
use Rattle.flume_value.specs.Parts.{members_of, list_layer}
use Rattle.flume_value.proofs.BagLemmas.{bag_of-twice}
use Rattle.bag_groups.specs.Pairs.{pair, pairs_of}
use Rattle.bag_groups.specs.Groups.{keys_of, values_of, grouped}
use Rattle.bag_groups.specs.Combining.{group_of, groups_in}
use Rattle.bag_groups.proofs.PairLemmas.{parts_of-pair}
use Rattle.combine_table.specs.declared.comb.Comb.{Comb}
use Rattle.combine_table.specs.Accumulators.{accumulator, finished}
use Rattle.combine_table.specs.Combinations.{combined}
use Rattle.combine_table.proofs.Parts.{finished-accumulator}
use Rattle.partial_tables.specs.Tables.{Pairs}
use Rattle.partial_tables.specs.Merges.{values_at, accumulated, finished_each, combined_groups}

group_of-pair : (k : Value) (vs : List Value) → group_of (pair k (value.List vs)) ≡ Some (k, vs)
group_of-pair k vs =
    let keyed : Value × Value → Option (Value × List Value) =
    λ parts. option_map (λ list. (parts.0, list)) (members_of parts.1) in
    let listed : Option (List Value) → Option (Value × List Value) =
    option_map (λ list. (k, list)) in
    ap (option_and_then keyed) (parts_of-pair k (value.List vs))
    ∙ ap (λ x. listed (list_layer x)) (value.outs-List vs)

-- of one key after the other
finished_keys : (c : Comb) (ps : Pairs) (ks : List Value)
    → finished_each c (map (λ k. (k, accumulator c (values_of k ps))) ks)
    ≡ combined_groups c (groups_in (map (λ k. pair k (value.List (values_of k ps))) ks))
finished_keys c ps [] = refl
finished_keys c ps (k ∷ ks) =
    let vs = values_of k ps in
    let more = groups_in (map (λ j. pair j (value.List (values_of j ps))) ks) in
    let one : finished c (accumulator c vs) ≡ combined c (bag_of vs) =
    finished-accumulator c vs ∙ ap (combined c) (sym (bag_of-twice (values_at k ps))) in
    (λ i. (k, one i) ∷ finished_keys c ps ks i)
    ∙ sym (ap (λ o. combined_groups c (cons_option o more)) (group_of-pair k vs))

pub finished-accumulated : (c : Comb) (pairs : List Value)
    → finished_each c (accumulated c (pairs_of pairs))
    ≡ combined_groups c (groups_in (grouped pairs))
finished-accumulated c pairs = finished_keys c (pairs_of pairs) (keys_of (pairs_of pairs))
