-- Calls on the members of a collection: each has an answer, by names and by slots the same.
use Rattle.std.proofs.Common.{◌≡◌, ℕ, ◌||◌, List, [], ◌∷◌, ◌++◌, length, Option, Some, None, Ok, Err, slice_get, refl, sym, ap, ◌∙◌, subst}
use Rattle.std.specs.List.{AllByRecursion as Each, AllZip, flat_map}
use Rattle.std.specs.Option.{option_and_then, option_map}
use Rattle.std.proofs.lemmas.List.Elements.{All-from_recursion}
use Rattle.flume_value.proofs.BagLemmas.{Each-bag_of, IsSorted-bag_of}
use Rattle.flume_value.proofs.EachLemmas.{Each-append, each_from}
use Rattle.flume_value.specs.Bag.{bag_of}
use Rattle.flume_value.specs.declared.fault.Kind.{Kind}
use Rattle.flume_value.specs.declared.value.Value.{Value}
use Rattle.flume_types.specs.Typing.{AllHave, Has}
use Rattle.flume_types.specs.declared.types.Ty.{Ty}
use Rattle.dofn_eval.specs.Answer.{HaveOutputTypes, HasAnswer}
use Rattle.dofn_eval.specs.Function.{CanBeCalledOn, SlotFunction as Fun}
use Rattle.dofn_eval.specs.Outcome.{Outcome, Gives, Traps, Stuck}
use Rattle.dofn_eval.specs.Run.{slots_mean}
use Rattle.body_check.proofs.FunctionLemmas.{answered as has_answer}
use Rattle.body_check.specs.Call.{means}
use Rattle.flume_collection.specs.Calls.{Called, emissions, or_none, trap_of}
use Rattle.flume_collection.specs.declared.trap.Trap.{Trap}
use Rattle.script_program.specs.Program.{DoesAsWritten}
use Rattle.script_program.specs.Script.{Function}
use Rattle.script_laws.specs.WellFormed.{IsWellTyped}
use Rattle.direct_meaning.proofs.PlaceLemmas.{zip_at}
use Rattle.direct_meaning.proofs.TypeLemmas.{set_again}
use Rattle.direct_meaning.specs.Calls.{answer_of, call_answered, answers_on}
use Rattle.direct_meaning.specs.Direct.{called_by}
use Rattle.direct_meaning.specs.Made.{IsCollectionOf}
use Rattle.direct_meaning.specs.declared.kept.Kept.{Kept}
use Rattle.direct_meaning.specs.inner.Kept.{has_traps}
use Rattle.direct_meaning.specs.inner.Slots.{IsDoneBy, emitted_by, slots_answer, trapped_by}

-- ---- an answer

-- what is called is answered, and what is emitted has the types of the outputs
abbrev pub CalledOf : List Ty → Called → Type 0
CalledOf gives (Ok lists) = AllZip AllHave gives lists
CalledOf gives (Err trap) = Unit {0}

pub record Answers (gives : List Ty) (answer : Option Called) : Type 0 where
  pub called : Called
  pub is : answer ≡ Some called
  pub has : CalledOf gives called

answers_in : (gives : List Ty) (x : Value) (outcome : Outcome (List (List Value)))
    → HasAnswer gives outcome → Answers gives (call_answered x outcome)
answers_in gives x (Gives lists) has = record {
  called = Ok lists;
  is = refl;
  has = let same : Ok lists ≡ has.0 = cc in subst (HaveOutputTypes gives) (sym same) has.2;
}
answers_in gives x (Traps kind) has = record { called = Err (kind, x); is = refl; has = tt }
answers_in gives x Stuck has = let none = has.1 in cc

-- a call of a function on a value of its argument's type is answered
pub answers : (function : Function) → IsWellTyped function → (x : Value)
    → Has function.signature.takes x → Answers function.signature.gives (answer_of function x)
unfolding answer_of
answers function typed x has =
    answers_in function.signature.gives x
    (means function.types (length function.signature.gives) function.argument
    function.signature.takes function.body x)
    (has_answer function.types function.argument function.signature.takes function.signature.gives
    function.body x typed has)

-- the same by slots
pub same_answer : (fun : Fun) (function : Function) → DoesAsWritten fun function → (x : Value)
    → answer_of function x ≡ slots_answer fun x
unfolding answer_of slots_answer
same_answer fun function does x =
    ap (call_answered x)
    (ap (λ (n : ℕ).
    means function.types n function.argument function.signature.takes function.body x) does.typed.1
    ∙ does.means x)

pub gives_answer : (fun : Fun) (x : Value) (lists : List (List Value))
    → slots_mean fun.outputs fun.body x ≡ Gives lists → slots_answer fun x ≡ Some (Ok lists)
unfolding slots_answer
gives_answer fun x lists is = ap (call_answered x) is

pub traps_answer : (fun : Fun) (x : Value) (kind : Kind)
    → slots_mean fun.outputs fun.body x ≡ Traps kind → slots_answer fun x ≡ Some (Err (kind, x))
unfolding slots_answer
traps_answer fun x kind is = ap (call_answered x) is

pub accepts : (fun : Fun) (function : Function) → DoesAsWritten fun function → (x : Value)
    → Has function.signature.takes x → CanBeCalledOn fun x
accepts fun function does x has =
    (function.signature.takes, function.signature.gives, does.typed, has)

-- ---- the calls on several elements

abbrev Answer : Type 0
Answer = Value → Option Called

-- the calls on these elements are answered
pub record AllAnswered (gives : List Ty) (answer : Answer) (elements : List Value) : Type 0 where
  pub calls : List Called
  pub are : answers_on answer elements ≡ Some calls
  pub have : Each (CalledOf gives) calls

pub all_answered : (gives : List Ty) (answer : Answer) (elements : List Value)
    → Each (λ x. Answers gives (answer x)) elements → AllAnswered gives answer elements
all_answered gives answer [] each = record { calls = []; are = refl; have = tt }
all_answered gives answer (x ∷ elements) each =
    let first = each.0 in
    let rest = all_answered gives answer elements each.1 in
    record {
      calls = first.called ∷ rest.calls;
      are = λ i.
          option_and_then (λ called. option_map (λ calls. called ∷ calls) (rest.are i))
          (first.is i);
      have = (first.has, rest.have);
    }

-- what is told of calls that are so, read off the answers
module _ {X : Type 0} (read : Option Called → List X) (told : Called → List X)
    (same : (called : Called) → read (Some called) ≡ told called) (answer : Answer) where
  first_told : (x : Value) (elements : List Value) (calls : List Called)
      (first : Option Called) (rest : Option (List Called))
      → answer x ≡ first → answers_on answer elements ≡ rest
      → option_and_then (λ called. option_map (λ more. called ∷ more) rest) first ≡ Some calls
      → ((more : List Called) → answers_on answer elements ≡ Some more
      → flat_map (λ y. read (answer y)) elements ≡ flat_map told more)
      → read (answer x) ++ flat_map (λ y. read (answer y)) elements ≡ flat_map told calls
  first_told x elements calls None rest one others is all = cc
  first_told x elements calls (Some called) None one others is all = cc
  first_told x elements calls (Some called) (Some more) one others is all =
      let are : called ∷ more ≡ calls = cc in
      (λ i. read (one i) ++ all more others i) ∙ (λ i. same called i ++ flat_map told more)
      ∙ ap (flat_map told) are

  told_all : (elements : List Value) (calls : List Called) → answers_on answer elements ≡ Some calls
      → flat_map (λ x. read (answer x)) elements ≡ flat_map told calls
  told_all [] calls is = let none : [] ≡ calls = cc in ap (flat_map told) none
  told_all (x ∷ elements) calls is =
      first_told x elements calls (answer x) (answers_on answer elements) refl refl is
      (told_all elements)

pub emitted_all : (output : ℕ) (answer : Answer) (elements : List Value) (calls : List Called)
    → answers_on answer elements ≡ Some calls
    → flat_map (λ x. emitted_by output (answer x)) elements ≡ flat_map (emissions output) calls
emitted_all output = told_all (emitted_by output) (emissions output) (λ called. refl)

pub trapped_all : (origin : ℕ) (answer : Answer) (elements : List Value) (calls : List Called)
    → answers_on answer elements ≡ Some calls
    → flat_map (λ x. trapped_by origin (answer x)) elements ≡ flat_map (trap_of origin) calls
trapped_all origin = told_all (trapped_by origin) (trap_of origin) (λ called. refl)

-- ---- types

pub emitted_has : (gives : List Ty) (output : ℕ) (type : Ty) → slice_get gives output ≡ Some type
    → (called : Called) → CalledOf gives called → Each (Has type) (emissions output called)
emitted_has gives output type at (Ok lists) have =
    let list = zip_at AllHave gives lists have output type at in
    subst (λ (o : Option (List Value)). Each (Has type) (or_none o)) (sym list.1)
    (each_from (Has type) list.0 list.2)
emitted_has gives output type at (Err trap) have = tt

all_have : (gives : List Ty) (output : ℕ) (type : Ty) → slice_get gives output ≡ Some type
    → (calls : List Called) → Each (CalledOf gives) calls
    → Each (Has type) (flat_map (emissions output) calls)
all_have gives output type at [] have = tt
all_have gives output type at (called ∷ calls) have =
    Each-append (Has type) (emissions output called) (flat_map (emissions output) calls)
    (emitted_has gives output type at called have.0)
    (all_have gives output type at calls have.1)

pub called_is : (origin output : ℕ) (traps : List Trap) (gives : List Ty) (type : Ty)
    → slice_get gives output ≡ Some type → (calls : List Called) → Each (CalledOf gives) calls
    → IsCollectionOf type (called_by origin output traps calls)
called_is origin output traps gives type at calls have = record {
  typed = All-from_recursion (Has type) (bag_of (flat_map (emissions output) calls))
      (Each-bag_of (Has type) (flat_map (emissions output) calls)
      (all_have gives output type at calls have));
  ascending = IsSorted-bag_of (flat_map (emissions output) calls);
  set = set_again (traps ++ flat_map (trap_of origin) calls);
}

-- the calls of a function on members of its argument's type
pub calls_answered : (function : Function) → IsWellTyped function → (elements : List Value)
    → AllHave function.signature.takes elements
    → AllAnswered function.signature.gives (answer_of function) elements
calls_answered function typed elements have =
    all_answered function.signature.gives (answer_of function) elements
    (each_answers elements (each_from (Has function.signature.takes) elements have))
  where
    each_answers : (xs : List Value) → Each (Has function.signature.takes) xs
        → Each (λ x. Answers function.signature.gives (answer_of function x)) xs
    each_answers [] each = tt
    each_answers (x ∷ xs) each =
        (answers function typed x each.0, each_answers xs each.1)

-- where calls are answered the same, the same is done
pub done_same : (origin output : ℕ) (one other : Value → Option Called)
    → ((x : Value) → one x ≡ other x) → (source result : Kept) (before after : List Trap)
    → result.members ≡ bag_of (flat_map (λ x. emitted_by output (one x)) source.members)
    → after ≡ before ++ flat_map (λ x. trapped_by origin (one x)) source.members
    → result.trapped
    ≡ (source.trapped || has_traps (flat_map (λ x. trapped_by origin (one x)) source.members))
    → IsDoneBy origin output other source result before after
done_same origin output one other same source result before after members found trapped = record {
  members = members
      ∙ (λ i. bag_of (flat_map (λ x. emitted_by output (same x i)) source.members));
  found = found ∙ (λ i. before ++ flat_map (λ x. trapped_by origin (same x i)) source.members);
  trapped = trapped ∙ (λ i. source.trapped || has_traps
      (flat_map (λ x. trapped_by origin (same x i)) source.members));
}

-- what is done by slots is done by names
pub done_by_slots : (origin output : ℕ) (fun : Fun) (function : Function)
    → DoesAsWritten fun function
    → (source result : Kept) (before after : List Trap)
    → result.members
    ≡ bag_of (flat_map (λ x. emitted_by output (slots_answer fun x)) source.members)
    → after ≡ before ++ flat_map (λ x. trapped_by origin (slots_answer fun x)) source.members
    → result.trapped ≡ (source.trapped || has_traps
    (flat_map (λ x. trapped_by origin (slots_answer fun x)) source.members))
    → IsDoneBy origin output (answer_of function) source result before after
done_by_slots origin output fun function does =
    done_same origin output (slots_answer fun) (answer_of function)
    (λ x. sym (same_answer fun function does x))
