-- What functions make of the values of objects.
use Rattle.std.proofs.Common.{◌≡◌, ℕ, List, [], ◌∷◌, Option, Some, None, refl, ap, subst}
use Rattle.std.specs.Prelude.{Ok, Err, option_map}
use Rattle.std.specs.List.{AllByRecursion as Each, AllZip}
use Rattle.flume_value.proofs.EachLemmas.{each_from}
use Rattle.flume_value.specs.declared.value.Value.{Value}
use Rattle.flume_value.specs.declared.value.Value.TheVariants as value
use Rattle.flume_types.specs.Typing.{AllHave, Has}
use Rattle.flume_types.specs.declared.types.Ty.{Ty}
use Rattle.flume_collection.specs.Calls.{Called, emissions}
use Rattle.flume_collection.specs.Collection.{Collection}
use Rattle.script_program.specs.Script.{Function}
use Rattle.script_laws.specs.WellFormed.{IsArgument, IsRecord, IsWellTyped}
use Rattle.direct_meaning.proofs.CallLemmas.{AllAnswered, Answers, CalledOf, all_answered, answers, called_is, emitted_has}
use Rattle.direct_meaning.proofs.ObjectTypes.{argument_has, as_object, nothing_is, nothing_object, object_is, record_has, value_has, values_have}
use Rattle.direct_meaning.specs.Calls.{answer_of, called_by}
use Rattle.direct_meaning.specs.Made.{IsCollectionOf}
use Rattle.direct_meaning.specs.Objects.{IsObject, answer_beside, answered_once, argument_of, done_beside, done_on, naming, nothing_behind, object_as, emission_on, only, operated_by, operated_on, value_of, object_values}

-- ---- one emission

one_has : (P : Value → Type 0) (xs : List Value) (x : Value) → Each P xs → only xs ≡ Some x → P x
one_has P [] x each is = cc
one_has P (y ∷ []) x each is = let same : y ≡ x = cc in subst P same each.0
one_has P (y ∷ (z ∷ zs)) x each is = cc

one_ok : (origin : ℕ) (x : Value) (one : Option Value) (v : Value) → emission_on origin x one ≡ Ok v
    → one ≡ Some v
one_ok origin x (Some w) v is = let same : w ≡ v = cc in ap (λ (u : Value). Some u) same
one_ok origin x None v is = cc

once_has : (origin : ℕ) (x : Value) (type : Ty) (called : Called) → CalledOf (type ∷ []) called
    → (v : Value) → answered_once origin x called ≡ Ok v → Has type v
once_has origin x type (Ok outputs) has v is =
    one_has (Has type) (emissions 0 (Ok outputs)) v
    (emitted_has (type ∷ []) 0 type refl (Ok outputs) has)
    (one_ok origin x (only (emissions 0 (Ok outputs))) v is)
once_has origin x type (Err trap) has v is = cc

-- ---- operate

-- a collection of that type is made
pub record SomeMade (type : Ty) (made : Option Collection) : Type 0 where
  pub collection : Collection
  pub made_so : made ≡ Some collection
  pub is : IsCollectionOf type collection

-- the same, and it is an object
pub record OneMade (type : Ty) (made : Option Collection) : Type 0 where
  pub collection : Collection
  pub made_so : made ≡ Some collection
  pub is : IsCollectionOf type collection
  pub object : IsObject collection

module _ (origin : ℕ) (function : Function) (typed : IsWellTyped function) (type : Ty)
    (gives : function.signature.gives ≡ type ∷ []) where
  abbrev answer : Value → Option Called
  answer = answer_of function

  answers_one : (x : Value) → Has function.signature.takes x → Answers (type ∷ []) (answer x)
  answers_one x has =
      subst (λ (types : List Ty). Answers types (answer x)) gives (answers function typed x has)

  module _ (types : List Ty) (cs : List Collection) (are : AllZip IsCollectionOf types cs)
      (objects : Each IsObject cs) (takes : IsArgument types function.signature.takes) where
    operated_so : (values : Option (List Value)) → object_values cs ≡ values
        → OneMade type (operated_on origin answer values cs)
    operated_so (Some values) is =
        let x = argument_of values in
        let it = answers_one x
        (argument_has types function.signature.takes values takes
        (values_have types cs are values is)) in
        let single = answered_once origin x it.called in
        record {
          collection = object_as single;
          made_so = ap (option_map (λ called. object_as (answered_once origin x called))) it.is;
          is = object_is type single (once_has origin x type it.called it.has);
          object = as_object single;
        }
    operated_so None is = record {
      collection = nothing_behind cs;
      made_so = refl;
      is = nothing_is type cs;
      object = nothing_object cs objects is;
    }

    pub operated_made : OneMade type (operated_by origin answer cs)
    operated_made = operated_so (object_values cs) refl

  -- ---- do .. with

  named : (x : Value) (called : Called) → CalledOf (type ∷ []) called
      → CalledOf (type ∷ []) (naming x called)
  named x (Ok outputs) has = has
  named x (Err trap) has = tt

  module _ (member beside : Ty)
      (takes : IsRecord (member ∷ beside ∷ []) function.signature.takes) where
    pub takes_pair : (v : Value) → Has beside v → (x : Value) → Has member x
        → Has function.signature.takes (value.Rec (x ∷ v ∷ []))
    takes_pair v has_v x has =
        record_has (member ∷ beside ∷ []) function.signature.takes (x ∷ v ∷ []) takes
        (has, (has_v, tt))

    answers_beside : (v : Value) → Has beside v → (x : Value) → Has member x
        → Answers (type ∷ []) (answer_beside answer v x)
    answers_beside v has_v x has =
        let it = answers_one (value.Rec (x ∷ v ∷ [])) (takes_pair v has_v x has) in
        record {
          called = naming x it.called;
          is = ap (option_map (naming x)) it.is;
          has = named x it.called it.has;
        }

    each_beside : (v : Value) → Has beside v → (xs : List Value) → Each (Has member) xs
        → Each (λ x. Answers (type ∷ []) (answer_beside answer v x)) xs
    each_beside v has_v [] each = tt
    each_beside v has_v (x ∷ xs) each =
        (answers_beside v has_v x each.0, each_beside v has_v xs each.1)

    pub calls_beside : (v : Value) → Has beside v → (xs : List Value) → AllHave member xs
        → AllAnswered (type ∷ []) (answer_beside answer v) xs
    calls_beside v has_v xs all =
        all_answered (type ∷ []) (answer_beside answer v) xs
        (each_beside v has_v xs (each_from (Has member) xs all))

    module _ (c object : Collection) (is_c : IsCollectionOf member c)
        (is_object : IsCollectionOf beside object) where
      done_so : (v : Option Value) → value_of object ≡ v
          → SomeMade type (done_on origin answer v c object)
      done_so (Some v) is =
          let all = calls_beside v (value_has beside object is_object v is) c.bag is_c.typed in
          record {
            collection = called_by origin 0 c.traps all.calls;
            made_so = ap (option_map (called_by origin 0 c.traps)) all.are;
            is = called_is origin 0 c.traps (type ∷ []) type refl all.calls all.have;
          }
      done_so None is = record {
        collection = nothing_behind (c ∷ object ∷ []);
        made_so = refl;
        is = nothing_is type (c ∷ object ∷ []);
      }

      pub done_made : SomeMade type (done_beside origin answer c object)
      done_made = done_so (value_of object) refl
