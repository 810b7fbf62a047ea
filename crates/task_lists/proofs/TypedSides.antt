-- The types of objects' values, and of what a function gives that is called beside one.
use Rattle.std.proofs.Common.{◌≡◌, ℕ, List, [], ◌∷◌, Option, Some, None, Ok, Err, map, sym, ap, ◌∙◌, subst}
use Rattle.std.specs.List.{AllByRecursion, AllZip, slice_get}
use Rattle.flume_value.specs.declared.value.Value.{Value}
use Rattle.flume_value.specs.declared.value.Value.TheVariants as value
use Rattle.flume_value.proofs.BagLemmas.{Each-bag_of}
use Rattle.flume_value.proofs.EachLemmas.{each_from}
use Rattle.flume_types.specs.declared.types.Ty.{Ty}
use Rattle.flume_types.specs.Typing.{AllHave, Has, HaveTypes}
use Rattle.flume_types.proofs.PartLemmas.{has_record}
use Rattle.flume_collection.specs.Calls.{Called, emissions, or_none}
use Rattle.exec_plan.specs.of_exec_graph.Calls.{called, emitted}
use Rattle.exec_plan.specs.of_exec_graph.Forests.{Forest}
use Rattle.exec_plan.specs.of_exec_graph.Objects.{world_beside, naming, only}
use Rattle.exec_plan.specs.of_exec_graph.Typing.{EmitsTyped, IsRecord, IsWorldTyped, Signatures}
use Rattle.exec_plan.specs.of_exec_graph.World.{World}
use Rattle.exec_plan.specs.of_exec_graph.Meaning.{place}
use Rattle.exec_plan.specs.of_exec_graph.declared.graph.Place.{Place}
use Rattle.exec_plan.specs.of_exec_graph.declared.step.Does.TheVariants as does
use Rattle.exec_plan.proofs.of_exec_graph.Barriers.{AllGood}
use Rattle.exec_plan.proofs.of_exec_graph.StepFacts.{called_is}
use Rattle.exec_plan.specs.declared.plan.PlanPlace.{PlanPlace}
use Rattle.exec_plan.specs.Typing.{IsSideTyped}
use Rattle.task_lists.specs.Lists.{calm_list}
use Rattle.task_lists.specs.Tasks.{Lists, if_valued}
use Rattle.task_lists.specs.Typing.{AreListsTyped}

-- ---- values

pub only_has : (P : Value → Type 0) (xs : List Value) (x : Value) → AllByRecursion P xs
    → only xs ≡ Some x → P x
only_has P [] x a e = cc
only_has P (y ∷ []) x a e = let same : y ≡ x = cc in subst P same a.0
only_has P (y ∷ (z ∷ zs)) x a e = cc

pub valued_have : (P : Value → Type 0) (v : Option Value) (xs : List Value)
    → AllByRecursion P xs → AllByRecursion P (if_valued v xs)
valued_have P None xs a = tt
valued_have P (Some v) xs a = a

-- the collections of lists have the lists' types
pub calm_good : (types : PlanPlace → Ty) (t : Lists) → AreListsTyped types t
    → (takes : List PlanPlace) → AllGood (map types takes) (map (calm_list t) takes)
calm_good types t lists [] = tt
calm_good types t lists (c ∷ cs) = (
  Each-bag_of (Has (types c)) (t c) (each_from (Has (types c)) (t c) (lists c)),
  calm_good types t lists cs,
)

-- ---- a function of the record of an element and a value

pair_has : (t object r : Ty) → IsRecord (t ∷ (object ∷ [])) r → (x v : Value) → Has t x
    → Has object v → Has r (value.Rec (x ∷ (v ∷ [])))
pair_has t object r is x v typed held =
    let pair : List Value = x ∷ (v ∷ []) in
    let both : HaveTypes (t ∷ (object ∷ [])) pair = (typed, (held, tt)) in
    subst (λ (u : Ty). Has u (value.Rec pair)) (sym is.record_of)
    (has_record is.fields pair (subst (λ (us : List Ty). HaveTypes us pair) (sym is.in_order) both))

first_typed : (u : Ty) (outputs : List (List Value)) → AllZip AllHave (u ∷ []) outputs
    → AllByRecursion (Has u) (or_none (slice_get outputs 0))
first_typed u [] a = absurd a
first_typed u (vs ∷ more) a = each_from (Has u) vs a.0

named_first : (u : Ty) (x : Value) (c : Called) → EmitsTyped (u ∷ []) c
    → AllByRecursion (Has u) (emissions 0 (naming x c))
named_first u x (Ok outputs) a = first_typed u outputs a
named_first u x (Err trap) a = tt

-- ---- steps beside a value

module _ (s : Signatures) (w : World) (world : IsWorldTyped s w) (outs : Place → Ty) (n : ℕ)
    (t object : Ty) (v : Value) (held : Has object v) (f : Forest)
    (typed : IsSideTyped s outs n t object f) where
  pub side_takes : (x : Value) → Has t x
      → Has (s.takes typed.function) (value.Rec (x ∷ (v ∷ [])))
  side_takes x h = pair_has t object (s.takes typed.function) typed.typed.0 x v h held

  pub side_emits : (x : Value) → Has t x → AllByRecursion (Has (outs (place n 0)))
      (emitted (world_beside (Some v) w) typed.label x)
  side_emits x h =
      let u : Ty = outs (place n 0) in
      let b : World = world_beside (Some v) w in
      let pair : Value = value.Rec (x ∷ (v ∷ [])) in
      let same : emitted b typed.label x ≡ emissions 0 (b.called typed.function x) =
      (λ i. emissions (typed.first i) (called b (typed.calls i) x))
      ∙ ap (emissions 0) (called_is (does.Call typed.function) b x) in
      let answers : EmitsTyped (u ∷ []) (w.called typed.function pair) =
      subst (λ (us : List Ty). EmitsTyped us (w.called typed.function pair)) typed.typed.1
      (world.called typed.function pair (side_takes x h)) in
      subst (AllByRecursion (Has u)) (sym same)
      (named_first u x (w.called typed.function pair) answers)
