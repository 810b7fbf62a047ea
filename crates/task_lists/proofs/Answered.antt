-- What a combination answers of groups, by what their lists come to.
use Rattle.std.proofs.Common.{◌≡◌, List, [], ◌∷◌, map, Option, refl, sym, ap, ◌∙◌}
use Rattle.std.specs.List.{cons_option}
use Rattle.flume_value.specs.declared.value.Value.{Value}
use Rattle.flume_value.specs.declared.value.Value.TheVariants as variant
use Rattle.flume_value.specs.Bag.{bag_of}
use Rattle.bag_groups.specs.Combining.{groups_in}
use Rattle.bag_groups.specs.Groups.{grouped, keys_of, values_of}
use Rattle.bag_groups.specs.Pairs.{pair, pairs_of}
use Rattle.combine_table.specs.declared.comb.Comb.{Comb}
use Rattle.combine_table.specs.Combinations.{combined}
use Rattle.shuffle_parts.specs.of_partial_tables.Merges.{combined_groups}
use Rattle.exec_plan.specs.of_exec_graph.World.{World}
use Rattle.exec_plan.specs.of_exec_graph.Calls.{called, of_combine, of_group}
use Rattle.exec_plan.specs.of_exec_graph.declared.step.Does.TheVariants as does
use Rattle.task_lists.specs.Outs.{answers_of}
use Rattle.task_lists.proofs.Groupable.{group_is}

-- of one group
one_answer : (w : World) (c : Comb) (k : Value) (vs : List Value)
    → called w (does.Combine c) (pair k (variant.List vs))
    ≡ of_combine k (combined c (bag_of vs))
unfolding called
one_answer w c k vs = ap (of_group c) (group_is k vs)

keys_answered : (w : World) (c : Comb) (f : Value → List Value) (ks : List Value)
    → answers_of (combined_groups c (groups_in (map (λ k. pair k (variant.List (f k))) ks)))
    ≡ map (called w (does.Combine c)) (map (λ k. pair k (variant.List (f k))) ks)
keys_answered w c f [] = refl
keys_answered w c f (k ∷ ks) =
    let rest = map (λ k. pair k (variant.List (f k))) ks in
    ap (λ (o : Option (Value × List Value)).
    answers_of (combined_groups c (cons_option o (groups_in rest)))) (group_is k (f k))
    ∙ (λ i. sym (one_answer w c k (f k)) i ∷ keys_answered w c f ks i)

pub groups_answered : (w : World) (c : Comb) (pairs : List Value)
    → answers_of (combined_groups c (groups_in (grouped pairs)))
    ≡ map (called w (does.Combine c)) (grouped pairs)
groups_answered w c pairs =
    keys_answered w c (λ k. values_of k (pairs_of pairs)) (keys_of (pairs_of pairs))
