-- What a script's function makes of objects, and beside one, is what a barrier makes of them.
use Rattle.std.proofs.Common.{◌≡◌, ℕ, List, [], ◌∷◌, ◌++◌, map, Option, Some, None, Ok, Err, refl, sym, ap, ◌∙◌, append-nil}
use Rattle.std.specs.Prelude.{option_map, option_and_then}
use Rattle.std.specs.List.{flat_map, slice_get}
use Rattle.flume_value.specs.declared.value.Value.{Value}
use Rattle.flume_value.specs.declared.value.Value.TheVariants as value
use Rattle.flume_value.specs.Bag.{bag_of}
use Rattle.flume_collection.specs.Traps.{trap_set}
use Rattle.flume_collection.specs.Calls.{Called, emissions, or_none, passed, trap_of}
use Rattle.flume_collection.specs.Collection.{Collection, unless_trapped}
use Rattle.flume_collection.proofs.Together.{same_collection}
use Rattle.flume_collection.specs.declared.trap.Trap.{Trap}
use Rattle.exec_graph.specs.Objects as graph
use Rattle.exec_graph.specs.World.{World}
use Rattle.direct_meaning.specs.Calls.{called_by, answers_on}
use Rattle.direct_meaning.specs.Objects as direct
use Rattle.build_law.specs.Worlds.{or_silent}
use Rattle.build_law.proofs.Settling.{set_twice}
use Rattle.build_law.proofs.Tables.{and_then_some, map_some}

-- ---- calls

calls_mapped : (answer : Value → Option Called) (xs : List Value) (calls : List Called)
    → answers_on answer xs ≡ Some calls → map (λ x. or_silent (answer x)) xs ≡ calls
calls_mapped answer [] calls h = cc
calls_mapped answer (x ∷ xs) calls h =
    let (one, first, rest) =
    and_then_some (λ called. option_map (λ calls. called ∷ calls) (answers_on answer xs)) (answer x)
    calls h in
    let (others, behind, same) =
    map_some (λ calls. one ∷ calls) (answers_on answer xs) calls rest in
    (λ i. or_silent (first i) ∷ calls_mapped answer xs others behind i) ∙ same

flat_mapped : {A B C : Type 0} (g : B → List C) (f : A → B) (xs : List A)
    → flat_map g (map f xs) ≡ flat_map (λ x. g (f x)) xs
flat_mapped g f [] = refl
flat_mapped g f (x ∷ xs) = ap (λ ys. g (f x) ++ ys) (flat_mapped g f xs)

-- what the calls on all members give
pub passed_is : (n output : ℕ) (answer : Value → Option Called) (c : Collection)
    (calls : List Called) → answers_on answer c.bag ≡ Some calls
    → called_by n output c.traps calls ≡ passed n output (λ x. or_silent (answer x)) c
passed_is n output answer c calls h =
    ap (called_by n output c.traps) (sym (calls_mapped answer c.bag calls h))
    ∙ (λ i. record {
      bag = bag_of (flat_mapped (emissions output) (λ x. or_silent (answer x)) c.bag i);
      traps = trap_set (c.traps
          ++ flat_mapped (trap_of n) (λ x. or_silent (answer x)) c.bag i);
    })

-- ---- values of objects

only_same : {X : Type 0} (xs : List X) → direct.only xs ≡ graph.only xs
only_same [] = refl
only_same (x ∷ []) = refl
only_same (x ∷ (y ∷ ys)) = refl

first_same : (o : Option Value) (rest : Option (List Value))
    → option_and_then (λ v. option_map (λ vs. v ∷ vs) rest) o ≡ graph.with_first o rest
first_same None rest = refl
first_same (Some v) rest = refl

values_same : (cs : List Collection) → direct.object_values cs ≡ graph.values_in cs
values_same [] = refl
values_same (c ∷ cs) =
    ap (λ rest. option_and_then (λ v. option_map (λ vs. v ∷ vs) rest) (direct.value_of c))
    (values_same cs)
    ∙ first_same (direct.value_of c) (graph.values_in cs)
    ∙ ap (λ o. graph.with_first o (graph.values_in cs))
    (only_same (unless_trapped c.traps c.bag))

argument_same : (vs : List Value) → direct.argument_of vs ≡ graph.argument vs
argument_same [] = refl
argument_same (v ∷ []) = refl
argument_same (v ∷ (u ∷ vs)) = refl

-- ---- operate

one_same : (n : ℕ) (x : Value) (o : Option Value)
    → direct.object_as (direct.emission_on n x o) ≡ graph.one_emitted n x o
one_same n x None = refl
one_same n x (Some v) = refl

answer_same : (n : ℕ) (x : Value) (called : Called)
    → direct.object_as (direct.answered_once n x called) ≡ graph.one_answer n x called
answer_same n x (Ok outputs) =
    let emitted : List Value = or_none (slice_get outputs 0) in
    ap (λ o. direct.object_as (direct.emission_on n x o)) (only_same emitted)
    ∙ one_same n x (graph.only emitted)
answer_same n x (Err trap) = refl

module _ (w : World) (n f : ℕ) (answer : Value → Option Called)
    (world : w.called f ≡ (λ x. or_silent (answer x))) where
  operate_on : (cs : List Collection) (c : Collection) (o : Option (List Value))
      → direct.operated_on n answer o cs ≡ Some c → c ≡ graph.operated_on w n f o cs
  operate_on cs c None h =
      let same : direct.nothing_behind cs ≡ c = cc in sym same
  operate_on cs c (Some vs) h =
      let x : Value = direct.argument_of vs in
      let (called, is, same) =
      map_some (λ called. direct.object_as (direct.answered_once n x called)) (answer x) c h in
      sym same ∙ answer_same n x called
      ∙ ap (graph.one_answer n x) (sym (ap or_silent is))
      ∙ (λ i. graph.one_answer n x (sym world i x))
      ∙ ap (λ y. graph.one_answer n y (w.called f y)) (argument_same vs)

  -- ---- calls beside an object

  naming_same : (x : Value) (o : Option Called)
      → or_silent (option_map (direct.naming x) o) ≡ graph.naming x (or_silent o)
  naming_same x None = refl
  naming_same x (Some (Ok outputs)) = refl
  naming_same x (Some (Err trap)) = refl

  beside_on : (c object d : Collection) (o : Option Value)
      → direct.done_on n answer o c object ≡ Some d → d ≡ graph.side_input_on w n f o c object
  beside_on c object d None h =
      let same : direct.nothing_behind (c ∷ object ∷ []) ≡ d = cc in
      let ts : List Trap = flat_map (λ (e : Collection). e.traps) (c ∷ object ∷ []) in
      sym same
      ∙ same_collection _ _ _ _ refl
      (sym (ap trap_set (append-nil (trap_set ts)) ∙ set_twice ts))
  beside_on c object d (Some v) h =
      let (calls, is, same) =
      map_some (called_by n 0 c.traps) (answers_on (direct.answer_beside answer v) c.bag) d h in
      sym same ∙ passed_is n 0 (direct.answer_beside answer v) c calls is
      ∙ (λ i. passed n 0 (λ x. naming_same x (answer (value.Rec (x ∷ v ∷ []))) i) c)
      ∙ (λ i. passed n 0 (λ x. graph.naming x (sym world i (value.Rec (x ∷ v ∷ [])))) c)

pub operate_is : (w : World) (n f : ℕ) (answer : Value → Option Called) (cs : List Collection)
    (c : Collection) → w.called f ≡ (λ x. or_silent (answer x))
    → direct.operated_by n answer cs ≡ Some c → c ≡ graph.operated w n f cs
operate_is w n f answer cs c world h =
    operate_on w n f answer world cs c (graph.values_in cs)
    (ap (λ o. direct.operated_on n answer o cs) (sym (values_same cs)) ∙ h)

pub beside_is : (w : World) (n f : ℕ) (answer : Value → Option Called) (c object d : Collection)
    → w.called f ≡ (λ x. or_silent (answer x))
    → direct.done_beside n answer c object ≡ Some d → d ≡ graph.side_input w n f c object
beside_is w n f answer c object d world h =
    beside_on w n f answer world c object d (graph.value_in object)
    (ap (λ o. direct.done_on n answer o c object)
    (sym (only_same (unless_trapped object.traps object.bag))) ∙ h)
