-- The argument of a function of objects is of the type that it takes.
use Rattle.std.proofs.Common.{◌≡◌, ℕ, List, [], ◌∷◌, map, Some, sym, subst}
use Rattle.flume_value.specs.declared.value.Value.{Value}
use Rattle.flume_value.specs.declared.value.Value.TheVariants as value
use Rattle.flume_types.specs.declared.types.Ty.{Ty}
use Rattle.flume_types.specs.Typing.{Has, HaveTypes}
use Rattle.flume_types.proofs.PartLemmas.{has_record}
use Rattle.exec_graph.specs.Objects.{argument, values_in}
use Rattle.exec_graph.specs.Typing.{IsArgument, IsRecord, Signatures}
use Rattle.exec_graph.proofs.Barriers.{values_have}
use Rattle.exec_plan.specs.declared.plan.PlanPlace.{PlanPlace}
use Rattle.forest_courses.specs.of_task_lists.Lists.{calm_list}
use Rattle.forest_courses.specs.of_task_lists.Tasks.{Lists}
use Rattle.forest_courses.specs.of_task_lists.Typing.{AreListsTyped}
use Rattle.forest_courses.proofs.of_task_lists.TypedSides.{calm_good}
use Rattle.task_safety.specs.Taking.{Takes}

record_has : (ts : List Ty) (t : Ty) (vs : List Value) → IsRecord ts t → HaveTypes ts vs
    → Has t (value.Rec vs)
record_has ts t vs r h =
    subst (λ (u : Ty). Has u (value.Rec vs)) (sym r.record_of)
    (has_record r.fields vs (subst (λ (us : List Ty). HaveTypes us vs) (sym r.in_order) h))

argument_has : (ts : List Ty) (t : Ty) (vs : List Value) → IsArgument ts t → HaveTypes ts vs
    → Has t (argument vs)
argument_has [] t [] r h = record_has [] t [] r h
argument_has [] t (v ∷ vs) r h = absurd h
argument_has (u ∷ us) t [] r h = absurd h
argument_has (u ∷ []) t (v ∷ []) r h = subst (λ (x : Ty). Has x v) (sym r) h.0
argument_has (u ∷ []) t (v ∷ (x ∷ vs)) r h = absurd h.1
argument_has (u ∷ (y ∷ us)) t (v ∷ []) r h = absurd h.1
argument_has (u ∷ (y ∷ us)) t (v ∷ (x ∷ vs)) r h =
    record_has (u ∷ (y ∷ us)) t (v ∷ (x ∷ vs)) r h

pub argument_taken : (s : Signatures) (types : PlanPlace → Ty) (t : Lists)
    → AreListsTyped types t → (takes : List PlanPlace) (f : ℕ)
    → IsArgument (map types takes) (s.takes f) → (vs : List Value)
    → values_in (map (calm_list t) takes) ≡ Some vs → Takes s f (argument vs)
argument_taken s types t lists takes f is vs found =
    argument_has (map types takes) (s.takes f) vs is
    (values_have (map types takes) (map (calm_list t) takes) vs (calm_good types t lists takes)
    found)
