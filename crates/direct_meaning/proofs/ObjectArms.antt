-- Each way in which a node is made of objects, or makes one, from what is kept before it to what is
-- kept behind it.
use Rattle.std.proofs.Common.{◌≡◌, ℕ, ◌+◌, ◌||◌, Bool, List, [], ◌∷◌, ◌++◌, Option, Some, slice_get, refl, sym, ap, ◌∙◌, subst, ⊎_elim}
use Rattle.std.specs.Prelude.{All, Result}
use Rattle.std.specs.List.{AllZip, Contains, flat_map}
use Rattle.std.specs.Option.{option_and_then, option_map}
use Rattle.std.proofs.lemmas.List.Elements.{All-from_recursion}
use Rattle.flume_value.proofs.BagLemmas.{bag_of-settled}
use Rattle.flume_value.proofs.EachLemmas.{Each-weaker, each_from}
use Rattle.flume_value.specs.Bag.{bag_of}
use Rattle.flume_value.specs.declared.fault.Kind.{Kind}
use Rattle.flume_value.specs.declared.value.Value.{Value}
use Rattle.flume_value.specs.declared.value.Value.TheVariants as value
use Rattle.flume_types.specs.Typing.{Has}
use Rattle.flume_types.specs.declared.types.Ty.{Ty}
use Rattle.combine_table.specs.Combinations.{Suits, combined}
use Rattle.combine_table.specs.declared.comb.Comb.{Comb}
use Rattle.flume_collection.proofs.Members.{at_head, at_tail, head_or_tail, not_in_none}
use Rattle.flume_collection.specs.Collection.{Collection}
use Rattle.flume_collection.specs.declared.trap.Trap.{Trap}
use Rattle.script_program.specs.declared.made.Made.{Made}
use Rattle.script_program.specs.declared.made.Made.TheVariants as made
use Rattle.script_program.specs.Script.{Function, Script}
use Rattle.script_laws.specs.WellFormed.{IsArgument, IsRecord, function_at, members_at}
use Rattle.direct_meaning.proofs.ArmLemmas.{any_read, has_callee}
use Rattle.direct_meaning.proofs.HereLemmas.{Here, fits_so, goes_so, reads_so}
use Rattle.direct_meaning.proofs.KeepLemmas.{Stood, all_stand, among_made, value_same}
use Rattle.direct_meaning.proofs.ObjectKeeps.{Comes, done_comes, operated_comes, whole_kept, whole_own}
use Rattle.direct_meaning.proofs.ObjectMakes.{calls_beside, takes_pair}
use Rattle.direct_meaning.proofs.ObjectTypes.{all_suit, argument_has, value_has, values_have}
use Rattle.direct_meaning.proofs.ReadLemmas.{AnyRead, HasCallee}
use Rattle.direct_meaning.proofs.StandLemmas.{Source, held_typed, keeps}
use Rattle.direct_meaning.proofs.TableLemmas.{zip_made}
use Rattle.direct_meaning.proofs.TypeLemmas.{taken}
use Rattle.direct_meaning.specs.Calls.{answer_of}
use Rattle.direct_meaning.specs.Direct.{all_made, done_beside_at, inputs_behind, made_as, operated_at}
use Rattle.direct_meaning.specs.Made.{IsCollectionOf}
use Rattle.direct_meaning.specs.Objects.{argument_of, combined_whole, done_beside, object_as, operated_by, value_of, object_values, whole_value}
use Rattle.direct_meaning.specs.declared.kept.Kept.{Kept}
use Rattle.direct_meaning.specs.inner.Kept.{has_traps, unless_behind}
use Rattle.direct_meaning.specs.inner.Objects.{IsDoneBeside, IsDoneOn, IsOperated, IsOperatedOn, value_kept, values_in, whole_of}
use Rattle.direct_meaning.specs.inner.Stands.{Stands}

-- two options that are the same one are of one value
one_value : {A : Type 0} (o : Option A) (x y : A) → o ≡ Some x → o ≡ Some y → x ≡ y
one_value o x y first second = let both : Some x ≡ Some y = sym first ∙ second in cc

-- ---- what is read

-- objects whose values a function of a script takes
pub record ObjectsRead (script : Script) (kept : List (Option Kept))
    (table : List (Option Collection)) (objects : List ℕ) (called : ℕ) : Type 0 where
  pub callee : HasCallee script called
  pub open callee use *
  pub types : List Ty
  pub takes : IsArgument types function.signature.takes
  pub stood : Stood kept table objects
  pub are : AllZip IsCollectionOf types stood.collections

-- members, and an object, whose record a function of a script takes
pub record BesideRead (script : Script) (kept : List (Option Kept))
    (table : List (Option Collection)) (source called object : ℕ) (type : Ty) : Type 0 where
  pub callee : HasCallee script called
  pub open callee use *
  pub gives : function.signature.gives ≡ type ∷ []
  pub member : Ty
  pub value : Ty
  pub takes : IsRecord (member ∷ value ∷ []) function.signature.takes
  pub from : Source kept table source member
  pub beside : Source kept table object value

-- what is related to each of some numbers
zip_each : (R : ℕ → Ty → Type 0) (numbers : List ℕ) (types : List Ty) → AllZip R numbers types
    → (n : ℕ) → Contains numbers n → (t : Ty) × R n t
zip_each R [] types zipped n is = absurd (not_in_none n is)
zip_each R (m ∷ numbers) [] zipped n is = absurd zipped
zip_each R (m ∷ numbers) (t ∷ types) zipped n is =
    ⊎_elim (λ (e : m ≡ n). (t, subst (λ (k : ℕ). R k t) e zipped.0))
    (λ there. zip_each R numbers types zipped.1 n there) (head_or_tail m numbers n is)

module _ {script : Script} {inputs left : List (List Value)} {number : ℕ}
    {kept : List (Option Kept)} {traps : List Trap} where
  -- behind a node of which a step comes to what is kept
  comes_so : (m : Made) (here : Here script inputs left number kept traps m)
      (given : Option Collection) → made_as script number m left here.stands.table ≡ given
      → (result : Kept) (after : List Trap) → Comes here.stands.table given result traps after
      → Stands script inputs (number + 1) (inputs_behind m left) (kept ++ Some result ∷ []) after
  comes_so m here given is result after it =
      subst (λ (l : List Trap). Stands script inputs (number + 1) (inputs_behind m left)
      (kept ++ Some result ∷ []) l) (sym it.found)
      (goes_so m here it.collection (is ∙ it.made_so) result it.keeps it.own it.has)

  -- ---- all members combined

  abbrev pub whole_read : (source : ℕ) (by : Comb)
      → (here : Here script inputs left number kept traps (made.CombineAll source by))
      → AnyRead kept here.stands.table source
  whole_read source by here =
      let it = fits_so (made.CombineAll source by) here in
      any_read (made.CombineAll source by) here source (at_head source []) it.member it.reads

  pub whole_suits : (source : ℕ) (by : Comb)
      → (here : Here script inputs left number kept traps (made.CombineAll source by))
      → (held : Kept) → slice_get kept source ≡ Some (Some held) → All (Suits by) held.members
  whole_suits source by here held held_at =
      let it = fits_so (made.CombineAll source by) here in
      all_suit by it.member held.members (taken by it.member here.node.entry.1.type it.suits).0
      (held_typed kept here.stands.table source it.member (whole_read source by here).source held
      held_at)

  pub whole_goes : (source : ℕ) (by : Comb)
      → (here : Here script inputs left number kept traps (made.CombineAll source by))
      → (held : Kept) → slice_get kept source ≡ Some (Some held) → (result : Kept)
      (after : List Trap)
      → result.members
      ≡ unless_behind held.trapped (whole_of number by held.members).bag
      → result.trapped ≡ (held.trapped || has_traps (whole_of number by held.members).traps)
      → after ≡ traps ++ unless_behind held.trapped (whole_of number by held.members).traps
      → Stands script inputs (number + 1) left (kept ++ Some result ∷ []) after
  whole_goes source by here held held_at result after members trapped found =
      let it = whole_read source by here in
      let c = it.source.from.collection in
      let same = keeps kept here.stands.table source it.type it.source held held_at in
      let whole : combined by (bag_of held.members) ≡ combined by c.bag
      = ap (λ (l : List Value). combined by (bag_of l)) same.members
      ∙ ap (combined by) (bag_of-settled c.bag it.source.from.is.ascending) in
      let made_by = λ (r : Result Value Kind). object_as (whole_value number r) in
      comes_so (made.CombineAll source by) here (Some (combined_whole number by c))
      (ap (option_map (combined_whole number by)) it.source.from.made) result after
      (record {
        collection = combined_whole number by c;
        made_so = refl;
        keeps = whole_kept number c.traps (combined by c.bag) result
            (members ∙ (λ i. unless_behind (same.trapped i) (made_by (whole i)).bag))
            (trapped ∙ (λ i. same.trapped i || has_traps (made_by (whole i)).traps));
        own = unless_behind (has_traps c.traps) (made_by (combined by c.bag)).traps;
        found = found
            ∙ (λ i. traps ++ unless_behind (same.trapped i) (made_by (whole i)).traps);
        has = whole_own here.stands.table number c.traps (combined by c.bag)
            (among_made here.stands.table source c it.source.from.made);
      })

  -- ---- operate

  pub operate_read : (objects : List ℕ) (called : ℕ)
      → (here : Here script inputs left number kept traps (made.Operate objects called))
      → ObjectsRead script kept here.stands.table objects called
  operate_read objects called here =
      let m = made.Operate objects called in
      let it = fits_so m here in
      let table = here.stands.table in
      let R : ℕ → Ty → Type 0 = λ n t. members_at here.stands.before n ≡ Some t in
      let stood = all_stand kept table objects
      (λ n is.
      let read = zip_each R objects it.types it.reads n is in
      (read.0, reads_so m here n is read.0 read.1)) in
      let zip = zip_made IsCollectionOf table R objects it.types it.reads
      (λ n is t reads.
      let from = (reads_so m here n is t reads).from in
      record { collection = from.collection; made = from.made; is = from.is }) in
      record {
        callee = has_callee here called it.function it.calls;
        types = it.types;
        takes = it.takes;
        stood = stood;
        are = subst (λ (cs : List Collection). AllZip IsCollectionOf it.types cs)
            (one_value (all_made table objects) zip.collections stood.collections zip.made
            stood.made)
            zip.are;
      }

  pub operate_typed : (objects : List ℕ) (called : ℕ)
      → (here : Here script inputs left number kept traps (made.Operate objects called))
      → (f : Function) (vs : List Value) → function_at script.functions called ≡ Some f
      → values_in kept objects ≡ Some vs → Has f.signature.takes (argument_of vs)
  operate_typed objects called here f vs f_at is =
      let it = operate_read objects called here in
      subst (λ (g : Function). Has g.signature.takes (argument_of vs))
      (one_value (function_at script.functions called) it.function f it.at f_at)
      (argument_has it.types it.function.signature.takes vs it.takes
      (values_have it.types it.stood.collections it.are vs (sym it.stood.values ∙ is)))

  pub operate_goes : (objects : List ℕ) (called : ℕ)
      → (here : Here script inputs left number kept traps (made.Operate objects called))
      → (result : Kept) (after : List Trap)
      → IsOperated number (answer_of (operate_read objects called here).function) kept objects
      result traps after
      → Stands script inputs (number + 1) left (kept ++ Some result ∷ []) after
  operate_goes objects called here result after done =
      let it = operate_read objects called here in
      let table = here.stands.table in
      let stood = it.stood in
      let cs = stood.collections in
      let answer = answer_of it.function in
      let m = made.Operate objects called in
      comes_so m here (operated_by number answer cs)
      (ap (option_and_then (λ (f : Function). operated_at number f objects table)) it.at
      ∙ ap (option_and_then (operated_by number answer)) stood.made)
      result after
      (operated_comes table number answer cs (object_values cs) result traps after stood.known
      (subst (λ (v : Option (List Value)). IsOperatedOn number answer
      (has_traps (flat_map (λ (c : Collection). c.traps) cs)) v result traps after) stood.values
      (subst (λ (b : Bool). IsOperatedOn number answer b (values_in kept objects) result traps
      after) stood.trapped done)))

  -- ---- do .. with

  module _ (source called object : ℕ)
      (here : Here script inputs left number kept traps (made.DoWith source called object)) where
    pub beside_read : BesideRead script kept here.stands.table source called object
        here.node.entry.1.type
    beside_read =
        let m = made.DoWith source called object in
        let it = fits_so m here in
        record {
          callee = has_callee here called it.function it.calls;
          gives = it.gives;
          member = it.member;
          value = it.value;
          takes = it.takes;
          from = reads_so m here source (at_head source (object ∷ [])) it.member it.reads;
          beside = reads_so m here object
              (at_tail source (object ∷ []) object (at_head object [])) it.value
              it.reads_object;
        }

    module _ (held more : Kept) (held_at : slice_get kept source ≡ Some (Some held))
        (more_at : slice_get kept object ≡ Some (Some more)) where
      abbrev it : BesideRead script kept here.stands.table source called object
          here.node.entry.1.type
      it = beside_read

      abbrev a : Collection
      a = it.from.from.collection

      abbrev b : Collection
      b = it.beside.from.collection

      value_typed : (v : Value) → value_kept more ≡ Some v → Has it.value v
      value_typed v is =
          value_has it.value b it.beside.from.is v
          (sym (value_same more b
          (keeps kept here.stands.table object it.value it.beside more more_at)) ∙ is)

      pub beside_typed : (f : Function) (v : Value)
          → function_at script.functions called ≡ Some f → value_kept more ≡ Some v
          → All (λ x. Has f.signature.takes (value.Rec (x ∷ v ∷ []))) held.members
      beside_typed f v f_at is =
          subst (λ (g : Function).
          All (λ x. Has g.signature.takes (value.Rec (x ∷ v ∷ []))) held.members)
          (one_value (function_at script.functions called) it.function f it.at f_at)
          (All-from_recursion
          (λ x. Has it.function.signature.takes (value.Rec (x ∷ v ∷ []))) held.members
          (Each-weaker (Has it.member)
          (λ x. Has it.function.signature.takes (value.Rec (x ∷ v ∷ [])))
          (takes_pair number it.function it.typed here.node.entry.1.type it.gives it.member
          it.value it.takes v (value_typed v is))
          held.members
          (each_from (Has it.member) held.members
          (held_typed kept here.stands.table source it.member it.from held held_at))))

      pub beside_goes : (result : Kept) (after : List Trap)
          → IsDoneBeside number (answer_of it.function) held more result traps after
          → Stands script inputs (number + 1) left (kept ++ Some result ∷ []) after
      beside_goes result after done =
          let table = here.stands.table in
          let answer = answer_of it.function in
          let m = made.DoWith source called object in
          let first = keeps kept table source it.member it.from held held_at in
          let second = keeps kept table object it.value it.beside more more_at in
          let typed = it.from.from.is.typed in
          comes_so m here (done_beside number answer a b)
          (ap (option_and_then (λ (f : Function). done_beside_at number f source object table))
          it.at
          ∙ (λ i. option_and_then (λ c.
          option_and_then (done_beside number answer c) (it.beside.from.made i))
          (it.from.from.made i)))
          result after
          (done_comes table source object number answer a b held more it.from.from.made
          it.beside.from.made first second result traps after (value_of b)
          (λ v is.
          let all = calls_beside number it.function it.typed here.node.entry.1.type it.gives
          it.member it.value it.takes v (value_has it.value b it.beside.from.is v is) a.bag typed
          in
          (all.calls, all.are))
          (subst (λ (v : Option Value). IsDoneOn number answer (held.trapped || more.trapped) v
          held result traps after) (value_same more b second) done))
