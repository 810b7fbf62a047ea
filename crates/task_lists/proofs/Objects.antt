-- Objects as lists: what acts make of lists that agree with collections, and the steps that are
-- called beside one.
use Rattle.std.proofs.Common.{◌≡◌, ℕ, suc, List, [], ◌∷◌, ◌++◌, length, map, Option, None, Some, refl, sym, ap, ◌∙◌, subst, arith}
use Rattle.std.specs.Prelude.{option_map}
use Rattle.std.specs.List.{flat_map}
use Rattle.flume_value.specs.declared.value.Value.{Value}
use Rattle.flume_value.specs.Bag.{bag_of}
use Rattle.flume_value.proofs.BagLemmas.{bag_of-twice, length-bag_of}
use Rattle.flume_collection.specs.declared.trap.Trap.{Trap}
use Rattle.flume_collection.specs.Calls.{emissions}
use Rattle.flume_collection.specs.Collection.{Collection, unless_trapped}
use Rattle.flume_collection.specs.Traps.{trap_set}
use Rattle.shards.proofs.Alike.{bag_alike}
use Rattle.exec_plan.proofs.of_exec_graph.ActLemmas.{act_holds}
use Rattle.exec_plan.specs.of_exec_graph.declared.graph.Act.{Act}
use Rattle.exec_plan.specs.of_exec_graph.Objects.{act_result, world_beside, called_beside, only, side_input_on, value_in}
use Rattle.exec_plan.specs.of_exec_graph.World.{World}
use Rattle.exec_plan.specs.Channels.{value_on, world_in}
use Rattle.exec_plan.specs.declared.plan.PlanPlace.{PlanPlace}
use Rattle.task_lists.specs.Tasks.{Lists, elements_beside, if_valued, value_beside}
use Rattle.task_lists.specs.Lists.{calm_list, object_made}
use Rattle.task_lists.proofs.Elements.{Agrees, IsBag}

-- ---- what acts make is a bag

side_bag : (w : World) (o f : ℕ) (v : Option Value) (c d : Collection)
    → IsBag (side_input_on w o f v c d)
side_bag w o f v c d =
    bag_of-twice (flat_map (λ x. emissions 0 ((world_beside v w).called f x))
    (called_beside v c d).bag)

pub act_bag : (w : World) (o : ℕ) (a : Act) (cs : List Collection) → IsBag (act_result w o a cs)
act_bag =
    act_holds IsBag (λ v. refl) (λ t. refl) (λ cs. refl)
    (λ w o f c object. side_bag w o f (value_in object) c object)

-- ---- the one member of a list is that of its bag

only_none : (xs : List Value) (n : ℕ) → length xs ≡ suc (suc n) → only xs ≡ None
only_none [] n many = absurd (omega (arith, many))
only_none (x ∷ []) n many = absurd (omega (arith, many))
only_none (x ∷ (y ∷ ys)) n many = refl

pub only_bag : (xs : List Value) → only (bag_of xs) ≡ only xs
only_bag [] = refl
only_bag (x ∷ []) = refl
only_bag (x ∷ (y ∷ ys)) =
    only_none (bag_of (x ∷ (y ∷ ys))) (length ys) (length-bag_of (x ∷ (y ∷ ys)))

-- ---- where the lists agree with the collections

module _ (t : Lists) (m : PlanPlace → Collection) (agree : (c : PlanPlace) → Agrees (t c) (m c))
  where
    bag_same : (c : PlanPlace) → bag_of (t c) ≡ (m c).bag
    bag_same c = bag_alike (t c) (m c).bag (agree c).same ∙ (agree c).settled

    value_same : (c : PlanPlace) → only (t c) ≡ value_in (m c)
    value_same c =
        sym (only_bag (t c)) ∙ ap only (bag_same c)
        ∙ sym (ap (λ (ts : List Trap). only (unless_trapped ts (m c).bag)) (agree c).calm)

    calm_same : (takes : List PlanPlace) → map (calm_list t) takes ≡ map m takes
    calm_same [] = refl
    calm_same (c ∷ cs) = λ i. record {
      bag = bag_same c i;
      traps = sym (agree c).calm i;
    } ∷ calm_same cs i

    -- acts make the same
    pub made_same : (w : World) (o : ℕ) (a : Act) (takes : List PlanPlace)
        → object_made w t o a takes ≡ act_result w o a (map m takes)
    made_same w o a takes = ap (act_result w o a) (calm_same takes)

    -- steps are called in the same world, and on the same elements
    pub world_same : (w : World) (o : Option PlanPlace)
        → world_beside (value_beside t o) w ≡ world_in w (option_map m o)
    world_same w None = refl
    world_same w (Some c) = ap (λ (v : Option Value). world_beside v w) (value_same c)

    pub side_agrees : (o : Option PlanPlace) (c : PlanPlace)
        → Agrees (elements_beside t o (t c)) (value_on (m c) (option_map m o))
    side_agrees None c = agree c
    side_agrees (Some d) c =
        subst (λ (v : Option Value).
        Agrees (if_valued (only (t d)) (t c)) (called_beside v (m c) (m d))) (value_same d)
        (by (only (t d)))
      where
        by : (v : Option Value) → Agrees (if_valued v (t c)) (called_beside v (m c) (m d))
        by None = record {
          same = λ u. refl;
          calm = λ i. trap_set ((agree c).calm i ++ ((agree d).calm i ++ []));
          settled = refl;
        }
        by (Some v) = agree c
