-- What the equations of a script's collections read is there.
use Rattle.std.proofs.Common.{◌≡◌, ℕ, zero, suc, ◌+◌, ◌-◌, ◌<◌, true, List, [], ◌∷◌, ◌++◌, length, Option, Some, None, Ok, Err, slice_get, refl, sym, ap, ◌∙◌, subst, arith}
use Rattle.std.specs.Prelude.{IfSome, IsSomeAnd, IsTrue}
use Rattle.std.specs.List.{All, AllByRecursion as Each, AllZip}
use Rattle.std.specs.Option.{option_map}
use Rattle.std.proofs.lemmas.List.Elements.{All-weaker}
use Rattle.flume_value.specs.declared.value.Value.{Value}
use Rattle.flume_types.specs.Cells.{are_filled, cells_of}
use Rattle.flume_types.specs.Tables.{table_of}
use Rattle.flume_types.specs.Typing.{AllHave, Has}
use Rattle.flume_types.specs.declared.types.Ty.{Ty}
use Rattle.flume_types.specs.declared.types.Ty.TheVariants as ty
use Rattle.flume_types.proofs.CellLemmas.{cells_of-are_filled}
use Rattle.bag_groups.specs.Pairs.{IsPair, pair}
use Rattle.combine_table.specs.Combinations.{Suits}
use Rattle.keyed_steps.specs.Keyed.{IsGroup}
use Rattle.keyed_steps.proofs.TypedFacts.{all_pairs, all_suited}
use Rattle.flume_collection.specs.Calls.{Called}
use Rattle.flume_collection.specs.Collection.{Collection}
use Rattle.written_types.specs.Named.{Named}
use Rattle.script_program.specs.Needed.{made_of}
use Rattle.script_program.specs.Script.{Function, Node, Script}
use Rattle.script_program.specs.declared.made.Emitted.{Emitted}
use Rattle.script_program.specs.declared.made.Made.{Made}
use Rattle.script_program.specs.declared.made.Made.TheVariants as made
use Rattle.script_program.specs.declared.made.Output.{Output}
use Rattle.script_laws.specs.WellFormed.{HasColumns, IsArgument, IsCallOf, ComesOfDo, IsNameOf, IsWellFormed, function_at, members_at, object_at}
use Rattle.script_laws.specs.WellFormed.{IsDoneWith as DoesWith, IsOperated as Operates}
use Rattle.bag_laws.specs.of_direct_meaning.Calls.{answer_of}
use Rattle.bag_laws.specs.of_direct_meaning.Direct.{all_made, made_at}
use Rattle.bag_laws.specs.of_direct_meaning.Objects.{IsObject, argument_of}
use Rattle.bag_laws.specs.of_direct_meaning.Made.{AreMade, IsCollectionOf}
use Rattle.bag_laws.proofs.of_direct_meaning.CallLemmas.{Answers, CalledOf, answers}
use Rattle.bag_laws.proofs.of_direct_meaning.KindLemmas.{AreObjects, objects_at}
use Rattle.bag_laws.proofs.of_direct_meaning.MakeLemmas.{well_typed}
use Rattle.bag_laws.proofs.of_direct_meaning.ObjectTypes.{all_suit, argument_has, record_has, value_has, values_have}
use Rattle.bag_laws.proofs.of_direct_meaning.PlaceLemmas.{mapped, within, zip_length}
use Rattle.bag_laws.proofs.of_direct_meaning.TableLemmas.{made_object}
use Rattle.bag_laws.proofs.of_direct_meaning.TypeLemmas.{taken}
use Rattle.build_law.proofs.Naming.{FitsAt, fits_at}
use Rattle.build_law.proofs.Tables.{and_then_some, map_some}
use Rattle.bag_laws.proofs.ListLemmas.{made_for}
use Rattle.no_defaults.specs.Making.{AnswersTo, HasAll, HasCells, IsCalled, AnswersBeside, AnswersOperate, MembersAre, ObjectIs}
use Rattle.no_defaults.specs.Readings.{HasOutput}

-- ---- places

in_front : {A : Type 0} (xs ys : List A) (i : ℕ) (x : A) → slice_get xs i ≡ Some x
    → slice_get (xs ++ ys) i ≡ Some x
in_front [] ys i x is = cc
in_front (z ∷ xs) ys zero x is = is
in_front (z ∷ xs) ys (suc i) x is = in_front xs ys i x is

abbrev type_at : List ℕ × Node → Ty
type_at entry = entry.1.type

-- what has a type in a front has it in the whole
type_in_front : (all before rest : Named Node) → all ≡ before ++ rest → (n : ℕ) (t : Ty)
    → members_at before n ≡ Some t → members_at all n ≡ Some t
type_in_front all before rest is n t reads =
    let (entry, there, same) = mapped type_at (slice_get before n) t reads in
    ap (λ (nodes : Named Node). members_at nodes n) is
    ∙ ap (option_map type_at) (in_front before rest n entry there) ∙ ap (λ u. Some u) same

one_entry : (o : Option (List ℕ × Node)) (entry : List ℕ × Node) (t : Ty) → o ≡ Some entry
    → option_map type_at o ≡ Some t → type_at entry ≡ t
one_entry None entry t is reads = cc
one_entry (Some e) entry t is reads =
    let same : e ≡ entry = cc in
    let found : type_at e ≡ t = cc in
    sym (ap type_at same) ∙ found

one_function : (o : Option Function) (f g : Function) → o ≡ Some f → o ≡ Some g → f ≡ g
one_function None f g first second = cc
one_function (Some h) f g first second = cc

-- ---- names of a call

abbrev emission : ℕ → ℕ → Emitted
emission called output = record { function = called; output = output }

-- the call of a name reads what the name does
same_source : (script : Script) (number source called output : ℕ)
    (call : IsCallOf script number (emission called output))
    → slice_get (made_of script) number ≡ Some (made.Do source called output)
    → output < length call.function.signature.gives → call.source ≡ source
same_source script number source called output call found below =
    let own : IsSomeAnd (slice_get (made_of script) number) (IsNameOf call.source called output) =
    subst (λ n. IsSomeAnd (slice_get (made_of script) n) (IsNameOf call.source called output))
    call.place (call.names output below) in
    let here : made.Do source called output ≡ made.Do call.source called output =
    subst (λ o. IsSomeAnd o (IsNameOf call.source called output)) found own in
    cc

-- objects that a function takes are one at least
some_objects : (R : ℕ → Ty → Type 0) (objects : List ℕ) (types : List Ty)
    → AllZip R objects types → (takes : Ty) → IsArgument types takes → 0 < length objects
some_objects R [] [] zipped takes is = absurd is
some_objects R [] (t ∷ types) zipped takes is = absurd zipped
some_objects R (n ∷ objects) types zipped takes is = omega arith

-- ---- calls

has_output : (gives : List Ty) (output : ℕ) (type : Ty) → slice_get gives output ≡ Some type
    → (called : Called) → CalledOf gives called → HasOutput output called
has_output gives output type at (Ok lists) have =
    subst (λ n. output < n) (zip_length AllHave gives lists have)
    (within gives output type at)
has_output gives output type at (Err trap) have = tt

answers_to : (function : Function) (output : ℕ) (type : Ty)
    → slice_get function.signature.gives output ≡ Some type → (member : Value)
    → Answers function.signature.gives (answer_of function member)
    → AnswersTo function output member
answers_to function output type at member it =
    subst (λ (o : Option Called). IsSomeAnd o (HasOutput output)) (sym it.is)
    (has_output function.signature.gives output type at it.called it.has)

module _ (script : Script) (well : IsWellFormed script) (table : List (Option Collection))
    (are : AreMade script script.nodes table) where
  -- ---- the members of what is made have its type

  is_of : (n : ℕ) (t : Ty) (c : Collection) → members_at script.nodes n ≡ Some t
      → made_at table n ≡ Some c → IsCollectionOf t c
  is_of n t c reads at =
      let (entry, there, it) = made_for script script.nodes table n c are at in
      subst (λ (u : Ty). IsCollectionOf u c)
      (one_entry (slice_get script.nodes n) entry t there reads) it

  typed_at : (n : ℕ) (t : Ty) (c : Collection) → members_at script.nodes n ≡ Some t
      → made_at table n ≡ Some c → AllHave t c.bag
  typed_at n t c reads at = (is_of n t c reads at).typed

  module _ (P : Value → Type 0) (n : ℕ) (t : Ty) (reads : members_at script.nodes n ≡ Some t)
      (all : (bag : List Value) → AllHave t bag → All P bag) where
    where_made : (o : Option Collection) → made_at table n ≡ o → IfSome o (λ c. All P c.bag)
    where_made None at = tt
    where_made (Some c) at = all c.bag (typed_at n t c reads at)

    members : MembersAre table P n
    members = where_made (made_at table n) refl

  -- ---- a collection

  module _ (number : ℕ) where
    is_called : (source called output : ℕ)
        → FitsAt script well number (made.Do source called output)
        → slice_get (made_of script) number ≡ Some (made.Do source called output)
        → IsCalled script table number source called output
    is_called source called output f found =
        let fit : ComesOfDo script.functions f.before source called output f.type = f.fit in
        let call : IsCallOf script number (emission called output) =
        well.calls number (made.Do source called output) (emission called output) found refl in
        let function = fit.function in
        let gives = function.signature.gives in
        let same : call.function ≡ function =
        one_function (function_at script.functions called) call.function function call.calls
        fit.calls in
        let few : output < length gives = within gives output f.type fit.gives in
        let below : output < length call.function.signature.gives =
        subst (λ (h : Function). output < length h.signature.gives) (sym same) few in
        let some : 0 < length call.function.signature.gives = omega (arith, below) in
        let reads = same_source script number source called output call found below in
        let place = call.place in
        let first : call.first + 0 ≡ number - output = omega arith in
        record {
          function = function;
          calls = fit.calls;
          answers = members (AnswersTo function output) source function.signature.takes
              (type_in_front script.nodes f.before f.rest f.is source function.signature.takes
              fit.takes)
              (All-weaker (Has function.signature.takes) (AnswersTo function output)
              (λ member has. answers_to function output f.type fit.gives member
              (answers function (well_typed script well.functions called function fit.calls)
              member has)));
          behind = omega arith;
          first =
              subst
              (λ s. IsSomeAnd (slice_get (made_of script) (number - output)) (IsNameOf s called 0))
              reads
              (subst
              (λ k. IsSomeAnd (slice_get (made_of script) k) (IsNameOf call.source called 0))
              first (call.names 0 some));
        }

    where_object : (n : ℕ) → object_at script.nodes n ≡ Some true → (o : Option Collection)
        → made_at table n ≡ o → IfSome o IsObject
    where_object n kind None at = tt
    where_object n kind (Some c) at = made_object script script.nodes table are n c kind at

    is_object : (n : ℕ) → object_at script.nodes n ≡ Some true → ObjectIs table n
    is_object n kind = where_object n kind (made_at table n) refl

    all_objects : (numbers : List ℕ) → AreObjects script.nodes numbers
        → Each (ObjectIs table) numbers
    all_objects [] kinds = tt
    all_objects (n ∷ numbers) kinds = (is_object n kinds.0, all_objects numbers kinds.1)

    -- a function of one output answers on what it takes
    answers_one : (called : ℕ) (function : Function) (type : Ty)
        → function_at script.functions called ≡ Some function
        → function.signature.gives ≡ type ∷ [] → (x : Value) → Has function.signature.takes x
        → AnswersTo function 0 x
    answers_one called function type calls gives x has =
        answers_to function 0 type (ap (λ (ts : List Ty). slice_get ts 0) gives) x
        (answers function (well_typed script well.functions called function calls) x has)

    -- what is made of several collections has their types
    all_typed : (before rest : Named Node) → script.nodes ≡ before ++ rest → (numbers : List ℕ)
        (types : List Ty)
        → AllZip (λ (n : ℕ) (t : Ty). members_at before n ≡ Some t) numbers types
        → (cs : List Collection) → all_made table numbers ≡ Some cs
        → AllZip IsCollectionOf types cs
    all_typed before rest is [] [] zipped cs made =
        let same : [] ≡ cs = cc in
        subst (AllZip IsCollectionOf []) same tt
    all_typed before rest is [] (t ∷ types) zipped cs made = absurd zipped
    all_typed before rest is (n ∷ numbers) [] zipped cs made = absurd zipped
    all_typed before rest is (n ∷ numbers) (t ∷ types) zipped cs made =
        let (c, at, others) =
        and_then_some (λ c. option_map (λ ds. c ∷ ds) (all_made table numbers)) (made_at table n)
        cs made in
        let (ds, tail, whole) = map_some (λ ds. c ∷ ds) (all_made table numbers) cs others in
        subst (AllZip IsCollectionOf (t ∷ types)) whole (
          is_of n t c (type_in_front script.nodes before rest is n t zipped.0) at,
          all_typed before rest is numbers types zipped.1 ds tail,
        )

    operated : (objects : List ℕ) (called : ℕ)
        → FitsAt script well number (made.Operate objects called)
        → slice_get (made_of script) number ≡ Some (made.Operate objects called)
        → AnswersOperate script table objects called
    operated objects called f found =
        let fit : Operates script.functions f.before objects called f.type = f.fit in
        let function = fit.function in
        record {
          some = some_objects _ objects fit.types fit.reads function.signature.takes fit.takes;
          are_objects = all_objects objects
              (objects_at script well number (made.Operate objects called) found);
          function = function;
          calls = fit.calls;
          answers = λ cs values made is.
              answers_one called function f.type fit.calls fit.gives (argument_of values)
              (argument_has fit.types function.signature.takes values fit.takes
              (values_have fit.types cs
              (all_typed f.before f.rest f.is objects fit.types fit.reads cs made) values is));
        }

    done_with : (source called object : ℕ)
        → FitsAt script well number (made.DoWith source called object)
        → slice_get (made_of script) number ≡ Some (made.DoWith source called object)
        → AnswersBeside script table source called object
    done_with source called object f found =
        let fit : DoesWith script.functions f.before source called object f.type = f.fit in
        let function = fit.function in
        let takes = function.signature.takes in
        let kinds = objects_at script well number (made.DoWith source called object) found in
        record {
          is_object = is_object object kinds.0;
          function = function;
          calls = fit.calls;
          answers = λ c v made is.
              members (λ x. AnswersTo function 0 (pair x v)) source fit.member
              (type_in_front script.nodes f.before f.rest f.is source fit.member fit.reads)
              (All-weaker (Has fit.member) (λ x. AnswersTo function 0 (pair x v))
              (λ x has. answers_one called function f.type fit.calls fit.gives (pair x v)
              (record_has (fit.member ∷ fit.value ∷ []) takes (x ∷ v ∷ []) fit.takes (
                has,
                (
                  value_has fit.value c
                      (is_of object fit.value c
                      (type_in_front script.nodes f.before f.rest f.is object fit.value
                      fit.reads_object)
                      made) v is,
                  tt,
                ),
              ))));
        }

    has_all : (how : Made) → FitsAt script well number how
        → slice_get (made_of script) number ≡ Some how → HasAll script table number how
    has_all (made.Input file columns) f found = tt
    has_all (made.Do source called output) f found = is_called source called output f found
    has_all (made.Group source) f found =
        let fit = f.fit in
        let pairs = table_of fit.key fit.value in
        members IsPair source pairs
        (type_in_front script.nodes f.before f.rest f.is source pairs fit.reads)
        (all_pairs fit.key fit.value)
    has_all (made.Combine source comb) f found =
        let fit = f.fit in
        let pairs = table_of fit.key (ty.List fit.member) in
        members (IsGroup comb) source pairs
        (type_in_front script.nodes f.before f.rest f.is source pairs fit.reads)
        (λ bag typed. all_suited comb fit.key fit.member bag
        (taken comb fit.member fit.value fit.suits).0 typed)
    has_all (made.Flatten sources) f found = tt
    has_all (made.Count source) f found = tt
    has_all (made.Join left right) f found =
        let fit = f.fit in
        let lefts = table_of fit.key fit.left_value in
        let rights = table_of fit.key fit.right_value in (
          members IsPair left lefts
              (type_in_front script.nodes f.before f.rest f.is left lefts fit.reads_left)
              (all_pairs fit.key fit.left_value),
          members IsPair right rights
              (type_in_front script.nodes f.before f.rest f.is right rights fit.reads_right)
              (all_pairs fit.key fit.right_value),
        )
    has_all (made.Top many source) f found = tt
    has_all (made.CombineAll source comb) f found =
        let fit = f.fit in
        members (Suits comb) source fit.member
        (type_in_front script.nodes f.before f.rest f.is source fit.member fit.reads)
        (λ bag typed. all_suit comb fit.member bag (taken comb fit.member f.type fit.suits).0 typed)
    has_all (made.Operate objects called) f found = operated objects called f found
    has_all (made.DoWith source called object) f found = done_with source called object f found
    has_all (made.Saved is_object call) f found = tt

  pub reads_all : (number : ℕ) (how : Made) → slice_get (made_of script) number ≡ Some how
      → HasAll script table number how
  reads_all number how found = has_all number how (fits_at script well number how found) found

  -- ---- outputs

  has_cells : (output : Output) → HasColumns script.nodes output → HasCells table output
  has_cells output it =
      members (λ member. IsTrue (are_filled output.columns (cells_of member))) output.reads it.type
      it.reads
      (All-weaker (Has it.type) (λ member. IsTrue (are_filled output.columns (cells_of member)))
      (λ member has. cells_of-are_filled member it.type output.columns it.columns has))

  pub all_cells : All (λ entry. HasCells table entry.1) script.outputs
  all_cells =
      All-weaker (λ (entry : List ℕ × Output). HasColumns script.nodes entry.1)
      (λ (entry : List ℕ × Output). HasCells table entry.1) (λ entry it. has_cells entry.1 it)
      script.outputs well.outputs
