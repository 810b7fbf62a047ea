-- Pairs whose groups the root of a lifted reducer takes are pairs that its combiner takes.
use Rattle.std.proofs.Common.{◌≡◌, ℕ, List, [], ◌∷◌, Option, Some, None, sym, ap, subst}
use Rattle.std.specs.Prelude.{All, option_map}
use Rattle.std.specs.Option.{IsSomeAnd}
use Rattle.std.proofs.lemmas.List.Elements.{All-from_recursion}
use Rattle.flume_value.specs.declared.value.Value.{Value}
use Rattle.flume_value.specs.declared.value.Value.TheVariants as variant
use Rattle.flume_value.specs.Parts.{list_layer}
use Rattle.flume_value.proofs.EachLemmas.{each_from, Each-weaker}
use Rattle.flume_types.specs.declared.types.Ty.{Ty}
use Rattle.flume_types.specs.declared.types.Ty.TheVariants as type
use Rattle.flume_types.specs.Tables.{table_of}
use Rattle.flume_types.specs.Typing.{Has, AllHave}
use Rattle.flume_types.proofs.PartLemmas.{has_list}
use Rattle.bag_groups.specs.Combining.{group_of}
use Rattle.bag_groups.specs.Pairs.{pair}
use Rattle.bag_groups.proofs.CombiningLemmas.{group_by}
use Rattle.bag_groups.proofs.PairLemmas.{parts_of-pair, key_of-pair}
use Rattle.combine_table.specs.declared.comb.Comb.{Comb}
use Rattle.combine_table.specs.Combinations.{Suits}
use Rattle.exec_plan.specs.of_keyed_steps.Keyed.{IsGroup}
use Rattle.exec_plan.proofs.of_keyed_steps.TypedFacts.{table_pair, Has-pair, all_pairs, group_suits}
use Rattle.shuffle_parts.specs.of_partial_tables.Merges.{IsCombinable}
use Rattle.exec_plan.specs.of_exec_graph.declared.step.Does.{Does}
use Rattle.exec_plan.specs.of_exec_graph.declared.step.Does.TheVariants as does
use Rattle.exec_plan.specs.of_exec_graph.declared.graph.Place.{Place}
use Rattle.exec_plan.specs.of_exec_graph.Forests.{Forest, Bare, Grow}
use Rattle.exec_plan.specs.of_exec_graph.Typing.{Signatures, StepTyped, ForestTyped, IsCombined}
use Rattle.exec_plan.specs.of_exec_graph.Wellformed.{comb_of, root_comb}
use Rattle.exec_plan.specs.declared.plan.PlanPlace.{PlanPlace}
use Rattle.exec_plan.specs.declared.plan.Grouping.{Grouping}
use Rattle.exec_plan.specs.Typing.{ChannelTyped, GroupTyped, stage_types}
use Rattle.exec_plan.specs.Wellformed.{IsLiftOk}
use Rattle.task_lists.specs.Typing.{AreGroupable}

-- the step takes groups whose members suit the combiner
abbrev Suited : Comb → Ty → Type 0
Suited c t = (x : Value) → Has t x → IsGroup c x

step_suited : (s : Signatures) (c : Comb) (d : Does) (n : ℕ) (t u : Ty) → comb_of d ≡ Some c
    → StepTyped s d n t u → Suited c t
step_suited s c (does.Combine k) n t u e a =
    let same : k ≡ c = cc in
    let taken : IsCombined k t u = a.1 in
    λ x h. subst (λ (j : Comb). IsGroup j x) same
    (group_suits k taken.key taken.value taken.suits x
    (subst (λ (r : Ty). Has r x) taken.takes h))
step_suited s c (does.Call f) n t u e a = cc
step_suited s c does.Pair n t u e a = cc
step_suited s c does.TagLeft n t u e a = cc
step_suited s c does.TagRight n t u e a = cc
step_suited s c does.Split n t u e a = cc
step_suited s c does.Solo n t u e a = cc
step_suited s c does.Spread n t u e a = cc

root_suited : (s : Signatures) (outs : Place → Ty) (c : Comb) (t : Ty) (f : Forest)
    → root_comb f ≡ Some c → ForestTyped s outs 0 t f → Suited c t
root_suited s outs c t Bare e a = cc
root_suited s outs c t (Grow l kids Bare) e a = step_suited s c l.does l.at t a.0.0 e a.0.1
root_suited s outs c t (Grow l kids (Grow m others rest)) e a = cc

reducer_suited : (s : Signatures) (outs : Place → Ty) (c : Comb) (t : Ty) (f : Option Forest)
    → IsLiftOk (Some c) f → ChannelTyped s outs 0 t f → Suited c t
reducer_suited s outs c t None ok a = absurd ok
reducer_suited s outs c t (Some f) ok a = root_suited s outs c t f ok a

-- a key with a list is a group
pub group_is : (k : Value) (vs : List Value) → group_of (pair k (variant.List vs)) ≡ Some (k, vs)
group_is k vs =
    let list : Value = variant.List vs in
    group_by (pair k list) k list (Some vs) (key_of-pair k list)
    (ap (option_map (λ (it : Value × Value). it.1)) (parts_of-pair k list))
    (ap list_layer (variant.outs-List vs))

pair_combinable : (c : Comb) (key value groups : Ty) → groups ≡ table_of key (type.List value)
    → Suited c groups → (p : Value) → Has (table_of key value) p → IsCombinable c p
pair_combinable c key value groups e suited p h =
    let (k, v, is, keyed, held) = table_pair key value p h in
    let group : Value = pair k (variant.List (v ∷ [])) in
    let typed : Has (table_of key (type.List value)) group =
    Has-pair key (type.List value) k (variant.List (v ∷ [])) keyed
    (has_list value (v ∷ []) (held, tt)) in
    let members : IsSomeAnd (Some (k, v ∷ [])) (λ (it : Value × List Value). All (Suits c) it.1) =
    subst (λ (o : Option (Value × List Value)). IsSomeAnd o (λ it. All (Suits c) it.1))
    (group_is k (v ∷ [])) (suited group (subst (λ (r : Ty). Has r group) (sym e) typed)) in
    let one : Suits c v = (each_from (Suits c) (v ∷ []) members).0 in
    subst (λ (o : Option (Value × Value)). IsSomeAnd o (λ parts. Suits c parts.1)) (sym is) one

pub groupable : (s : Signatures) (types : PlanPlace → Ty) (outs : Place → Ty) (k : ℕ)
    (g : Grouping) (gt : GroupTyped s types outs k g) → IsLiftOk g.lifted g.does
    → (pairs : List Value) → AllHave gt.pairs pairs → AreGroupable g.lifted pairs
groupable s types outs k g gt ok pairs have =
    let key : Ty = gt.grouped.key in
    let value : Ty = gt.grouped.value in
    let tables : AllHave (table_of key value) pairs =
    subst (λ (r : Ty). AllHave r pairs) gt.grouped.takes have in
    elim g.lifted as (λ o. IsLiftOk o g.does → AreGroupable o pairs) [
      | None ↦ λ ok. all_pairs key value pairs tables
      | Some c ↦ λ ok.
          let suited = reducer_suited s (stage_types types k g.first) c gt.groups g.does ok
          gt.reduced in
          All-from_recursion (IsCombinable c) pairs
          (Each-weaker (Has (table_of key value)) (IsCombinable c)
          (pair_combinable c key value gt.groups gt.grouped.gives suited) pairs
          (each_from (Has (table_of key value)) pairs tables))
    ] ok
