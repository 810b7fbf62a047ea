-- What is made of an object whose list is empty: nothing.
use Rattle.std.proofs.Common.{◌≡◌, ℕ, zero, suc, List, [], ◌∷◌, map, Option, None, Some, refl, ap, ◌∙◌}
use Rattle.std.specs.List.{AllByRecursion, slice_get}
use Rattle.flume_value.specs.declared.value.Value.{Value}
use Rattle.flume_value.specs.Bag.{bag_of}
use Rattle.flume_collection.specs.Collection.{Collection}
use Rattle.shards.specs.Shards.{shard}
use Rattle.exec_plan.specs.of_exec_graph.Objects.{only, operated_on, value_in, values_in, with_first}
use Rattle.exec_plan.specs.of_exec_graph.World.{World}
use Rattle.exec_plan.specs.of_exec_graph.declared.graph.Act.TheVariants as act
use Rattle.exec_plan.proofs.of_exec_graph.Barriers.{barrier_operate}
use Rattle.exec_plan.specs.declared.plan.InChannel.{InChannel}
use Rattle.exec_plan.specs.declared.plan.PlanPlace.{PlanPlace}
use Rattle.task_lists.specs.Lists.{calm_list, object_made}
use Rattle.task_lists.specs.Tasks.{Lists, Split, elements_beside, if_valued, map_task}
use Rattle.task_lists.proofs.Typed.{each_shard}

none_first : (a : Option Value) → with_first a None ≡ None
none_first None = refl
none_first (Some v) = refl

none_valued : (t : Lists) (takes : List PlanPlace) (k : ℕ) (c : PlanPlace)
    → slice_get takes k ≡ Some c → t c ≡ [] → values_in (map (calm_list t) takes) ≡ None
none_valued t [] k c at empty = cc at
none_valued t (d ∷ ds) zero c at empty =
    let same : d ≡ c = cc in
    ap (λ (l : List Value). with_first (only (bag_of l)) (values_in (map (calm_list t) ds)))
    (ap t same ∙ empty)
none_valued t (d ∷ ds) (suc k) c at empty =
    ap (with_first (value_in (calm_list t d))) (none_valued t ds k c at empty)
    ∙ none_first (value_in (calm_list t d))

-- a function of objects is not called
pub none_operated : (w : World) (t : Lists) (takes : List PlanPlace) (o f k : ℕ) (c : PlanPlace)
    → slice_get takes k ≡ Some c → t c ≡ []
    → (object_made w t o (act.Operate f) takes).bag ∷ [] ≡ [] ∷ []
none_operated w t takes o f k c at empty =
    let objects : List Collection = map (calm_list t) takes in
    ap (λ (made : Collection). made.bag ∷ []) (barrier_operate w o f objects
    ∙ ap (λ (vs : Option (List Value)). operated_on w o f vs objects)
    (none_valued t takes k c at empty))

no_members : (xs : List Value) → AllByRecursion (λ x. ⊥) xs → xs ≡ []
no_members [] none = refl
no_members (x ∷ xs) none = absurd none.0

-- a channel beside it gives its tasks no elements
pub none_beside : (n : Split) (t : Lists) (c : InChannel) (object : PlanPlace) (i : ℕ)
    → c.beside ≡ Some object → t object ≡ [] → (map_task n t c i).elements ≡ []
none_beside n t c object i is empty =
    ap (λ (o : Option PlanPlace). shard n.shards i (elements_beside t o (t c.reads))) is
    ∙ ap (λ (l : List Value). shard n.shards i (if_valued (only l) (t c.reads))) empty
    ∙ no_members (shard n.shards i []) (each_shard (λ x. ⊥) n.shards i [] tt)
