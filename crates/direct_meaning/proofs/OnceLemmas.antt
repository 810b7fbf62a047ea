-- What is kept of calls on values of objects, by slots and by names.
use Rattle.std.proofs.Common.{◌≡◌, ◌||◌, ◌++◌, ℕ, Bool, List, [], ◌∷◌, Option, Some, None, sym, ap, ◌∙◌, subst}
use Rattle.std.specs.Prelude.{IfOk, Result, option_map}
use Rattle.std.specs.List.{flat_map}
use Rattle.flume_value.specs.Bag.{bag_of}
use Rattle.flume_value.specs.declared.value.Value.{Value}
use Rattle.flume_value.specs.declared.value.Value.TheVariants as value
use Rattle.dofn_eval.specs.Function.{SlotFunction as Fun}
use Rattle.flume_collection.specs.Calls.{Called}
use Rattle.flume_collection.specs.declared.trap.Trap.{Trap}
use Rattle.script_program.specs.Program.{DoesAsWritten}
use Rattle.script_program.specs.Script.{Function}
use Rattle.direct_meaning.proofs.CallLemmas.{done_same, same_answer}
use Rattle.direct_meaning.proofs.ResultLemmas.{if_all}
use Rattle.direct_meaning.specs.Calls.{answer_of}
use Rattle.direct_meaning.specs.Objects.{answer_beside, answered_once, argument_of, naming, object_as}
use Rattle.direct_meaning.specs.declared.kept.Kept.{Kept}
use Rattle.direct_meaning.specs.inner.Kept.{has_traps}
use Rattle.direct_meaning.specs.inner.Objects.{IsAnyNew, IsDoneOn, IsKeptNew, IsOperatedOn}
use Rattle.direct_meaning.specs.inner.Slots.{emitted_by, slots_answer, trapped_by}

-- what a function does that is found, each does that is found there
pub does_found : (fun : Fun) (o : Option Function) (it function : Function) → DoesAsWritten fun it
    → o ≡ Some it → o ≡ Some function → DoesAsWritten fun function
does_found fun o it function does is at =
    let both : Some it ≡ Some function = sym is ∙ at in
    let same : it ≡ function = cc in
    subst (DoesAsWritten fun) same does

-- ---- operate

new_of : (once : Called → Result Value Trap) (answer : Option Called) (single : Result Value Trap)
    (kept : Kept) (before after : List Trap) → option_map once answer ≡ Some single
    → IsKeptNew (object_as single) kept before after
    → IsAnyNew (option_map (λ called. object_as (once called)) answer) kept before after
new_of once None single kept before after is new = cc
new_of once (Some called) single kept before after is new =
    let same : once called ≡ single = cc in
    subst (λ (s : Result Value Trap). IsKeptNew (object_as s) kept before after) (sym same) new

-- what is kept of a call by slots
pub operated_kept : {E : Type 0} (origin : ℕ) (fun : Fun) (function : Function)
    → DoesAsWritten fun function
    → (trapped : Bool) (values : Option (List Value)) (vs : List Value) → Some vs ≡ values
    → (single : Result Value Trap)
    → option_map (answered_once origin (argument_of vs)) (slots_answer fun (argument_of vs))
    ≡ Some single
    → (r : Result Kept E) (before after : List Trap)
    → IfOk r (λ kept. kept.members ≡ (object_as single).bag)
    → IfOk r (λ kept. kept.trapped ≡ has_traps (object_as single).traps)
    → IfOk r (λ kept. after ≡ before ++ (object_as single).traps)
    → IfOk r (λ kept. IsOperatedOn origin (answer_of function) trapped values kept before after)
operated_kept origin fun function does trapped values vs are single is r before after =
    let x = argument_of vs in
    if_all r _ _ _ _
    (λ kept members behind found.
    subst (λ (v : Option (List Value)).
    IsOperatedOn origin (answer_of function) trapped v kept before after) are
    (new_of (answered_once origin x) (answer_of function x) single kept before after
    (ap (option_map (answered_once origin x)) (same_answer fun function does x) ∙ is)
    (record { keeps = record { members = members; trapped = behind }; found = found })))

-- ---- do .. with

-- what is kept of calls by slots beside a value
pub beside_kept : {E : Type 0} (origin : ℕ) (fun : Fun) (function : Function)
    → DoesAsWritten fun function
    → (trapped : Bool) (one : Option Value) (v : Value) → Some v ≡ one → (source : Kept)
    → (r : Result Kept E) (before after : List Trap)
    → IfOk r (λ kept. kept.members
    ≡ bag_of (flat_map (λ x. emitted_by 0 (answer_beside (slots_answer fun) v x)) source.members))
    → IfOk r (λ kept. after ≡ before
    ++ flat_map (λ x. trapped_by origin (answer_beside (slots_answer fun) v x)) source.members)
    → IfOk r (λ kept. kept.trapped ≡ (source.trapped || has_traps
    (flat_map (λ x. trapped_by origin (answer_beside (slots_answer fun) v x)) source.members)))
    → IfOk r (λ kept. IsDoneOn origin (answer_of function) trapped one source kept before after)
beside_kept origin fun function does trapped one v is source r before after =
    if_all r _ _ _ _
    (λ kept members found behind.
    subst (λ (o : Option Value).
    IsDoneOn origin (answer_of function) trapped o source kept before after) is
    (done_same origin 0 (answer_beside (slots_answer fun) v) (answer_beside (answer_of function) v)
    (λ x. ap (option_map (naming x))
    (sym (same_answer fun function does (value.Rec (x ∷ v ∷ [])))))
    source kept before after members found behind))
