-- A needed node makes a collection of its type.
use Rattle.std.proofs.Common.{◌≡◌, ℕ, ◌-◌, ◌<◌, true, List, [], ◌∷◌, ◌++◌, length, Option, Some, slice_get, refl, sym, ap, ◌∙◌, subst, ⊎_elim}
use Rattle.std.specs.List.{All, AllByRecursion as Each, AllZip, Contains}
use Rattle.std.specs.Option.{option_and_then, option_map}
use Rattle.std.proofs.lemmas.List.Elements.{All-contains}
use Rattle.combine_table.specs.Combinations.{combined}
use Rattle.flume_collection.proofs.Members.{at_head, at_tail, head_or_tail, not_in_none}
use Rattle.flume_collection.specs.Collection.{Collection, by_key, together}
use Rattle.flume_types.specs.Tables.{table_of}
use Rattle.flume_types.specs.declared.types.Ty.{Ty}
use Rattle.flume_types.specs.declared.types.Ty.TheVariants as ty
use Rattle.flume_value.proofs.BagLemmas.{length-bag_of}
use Rattle.flume_value.specs.declared.value.Value.{Value}
use Rattle.script_laws.specs.of_written_types.Named.{Named}
use Rattle.script_program.specs.declared.made.Made.{Made}
use Rattle.script_program.specs.declared.made.Made.TheVariants as made
use Rattle.script_program.specs.Kinds.{gives_object, values_read}
use Rattle.script_laws.specs.of_script_rules.Operations.{sides_of}
use Rattle.script_program.specs.Script.{Function, Node, Script}
use Rattle.script_laws.specs.WellFormed.{Fits, IsDoneWith, IsOperated, IsWellTyped, function_at, members_at, object_at}
use Rattle.flume_value.proofs.EachLemmas.{Each-at, each_from}
use Rattle.direct_meaning.proofs.CallLemmas.{called_is, calls_answered}
use Rattle.direct_meaning.proofs.KindLemmas.{AreObjects}
use Rattle.direct_meaning.proofs.ObjectMakes.{done_made, operated_made}
use Rattle.direct_meaning.proofs.ObjectTypes.{whole_is, whole_object}
use Rattle.direct_meaning.proofs.PlaceLemmas.{mapped, within}
use Rattle.direct_meaning.proofs.TableLemmas.{IsMadeAt, all_found, found, made_object, zip_made}
use Rattle.direct_meaning.proofs.TypeLemmas.{combined_is, counted_is, grouped_is, joined_is, rows_are, together_is, top_is}
use Rattle.direct_meaning.specs.Calls.{answer_of}
use Rattle.direct_meaning.specs.Direct.{called_by, combined_by, counted_by, done_at, done_beside_at, done_by, inputs_behind, joined_collections, made_as, operated_at, rows_as, top_by}
use Rattle.direct_meaning.specs.Inputs.{AreLists, Sourced, sourced_by}
use Rattle.direct_meaning.specs.Made.{AreMade, IsCollectionOf}
use Rattle.direct_meaning.specs.Objects.{IsObject, combined_whole, done_beside, operated_by}
use Rattle.script_program.specs.Needed.{is_needed, operands}

each_has : (P : ℕ → Type 0) (xs : List ℕ) → Each P xs → (n : ℕ) → Contains xs n → P n
each_has P [] each n is = absurd (not_in_none n is)
each_has P (x ∷ xs) each n is =
    ⊎_elim (λ (e : x ≡ n). subst P e each.0) (λ there. each_has P xs each.1 n there)
    (head_or_tail x xs n is)

-- a node makes a collection of its type, and an object where it gives one
pub record Makes (script : Script) (number : ℕ) (m : Made) (inputs : List (List Value))
    (table : List (Option Collection)) (type : Ty) : Type 0 where
  pub collection : Collection
  pub made : made_as script number m inputs table ≡ Some collection
  pub is : IsCollectionOf type collection
  pub object : gives_object m ≡ true → IsObject collection

-- the function of a number is well typed
pub well_typed : (script : Script) → All (λ entry. IsWellTyped entry.1) script.functions
    → (called : ℕ) (function : Function) → function_at script.functions called ≡ Some function
    → IsWellTyped function
well_typed script typed called function at =
    let entry = mapped (λ (e : List ℕ × Function). e.1) (slice_get script.functions called) function
    at in
    subst IsWellTyped entry.2
    (Each-at (λ (e : List ℕ × Function). IsWellTyped e.1) script.functions called entry.0
    (each_from (λ (e : List ℕ × Function). IsWellTyped e.1) script.functions typed) (sym entry.1))

module _ (script : Script) (before : Named Node) (table : List (Option Collection))
    (are : AreMade script before table) where
  there : (number : ℕ) (type : Ty) → members_at before number ≡ Some type → number < length before
  there number type reads =
      let node = mapped (λ (entry : List ℕ × Node). entry.1.type) (slice_get before number) type
      reads in
      within before number node.0 node.1

  -- a collection that a needed node reads
  pub read : (numbers : List ℕ)
      → ((number : ℕ) → Contains numbers number → is_needed script number ≡ true)
      → (number : ℕ) → Contains numbers number → (type : Ty)
      → members_at before number ≡ Some type → IsMadeAt table number type
  read numbers needed number is type reads =
      found script before table are number type reads (there number type reads)
      (needed number is)

  group_makes : (number source : ℕ) (type : Ty) (inputs : List (List Value)) (key value : Ty)
      → IsMadeAt table source (table_of key value) → type ≡ table_of key (ty.List value)
      → Makes script number (made.Group source) inputs table type
  group_makes number source type inputs key value it gives = record {
    collection = by_key it.collection;
    made = ap (option_map by_key) it.made;
    is = subst (λ (t : Ty). IsCollectionOf t (by_key it.collection)) (sym gives)
        (grouped_is key value it.collection it.is);
    object = λ is. cc;
  }

  join_makes : (number left right : ℕ) (type : Ty) (inputs : List (List Value))
      (key lefts rights : Ty) → IsMadeAt table left (table_of key lefts)
      → IsMadeAt table right (table_of key rights)
      → type ≡ table_of key (sides_of lefts rights)
      → Makes script number (made.Join left right) inputs table type
  join_makes number left right type inputs key lefts rights a b gives = record {
    collection = joined_collections a.collection b.collection;
    made = λ i. option_and_then (λ c. option_map (joined_collections c) (b.made i)) (a.made i);
    is =
        subst (λ (t : Ty). IsCollectionOf t (joined_collections a.collection b.collection))
        (sym gives)
        (joined_is key lefts rights a.collection b.collection a.is b.is);
    object = λ is. cc;
  }

  module _ (number : ℕ) (m : Made)
      (needed : (n : ℕ) → Contains (operands m) n → is_needed script n ≡ true) where
    -- the collection of a number that is read first, or after one other
    first_read : (source : ℕ) (others : List ℕ) → operands m ≡ source ∷ others → (type : Ty)
        → members_at before source ≡ Some type → IsMadeAt table source type
    first_read source others same type reads =
        read (operands m) needed source
        (subst (λ (l : List ℕ). Contains l source) (sym same) (at_head source others)) type reads

  done_makes : (number source called output : ℕ) (type : Ty) (inputs : List (List Value))
      (function : Function) → IsWellTyped function
      → function_at script.functions called ≡ Some function
      → slice_get function.signature.gives output ≡ Some type
      → IsMadeAt table source function.signature.takes
      → Makes script number (made.Do source called output) inputs table type
  done_makes number source called output type inputs function typed at gives it =
      let c = it.collection in
      let origin = number - output in
      let all = calls_answered function typed c.bag it.is.typed in
      record {
        collection = called_by origin output c.traps all.calls;
        made = ap (option_and_then (λ (f : Function). done_at origin output f source table)) at
            ∙ (ap (option_and_then (done_by origin output function)) it.made
            ∙ ap (option_map (called_by origin output c.traps)) all.are);
        is = called_is origin output c.traps function.signature.gives type gives all.calls all.have;
        object = λ is. cc;
      }

  -- the collections of objects, each of a type of its own
  abbrev IsOne : Ty → Collection → Type 0
  IsOne type c = IsCollectionOf type c × IsObject c

  zip_are : (types : List Ty) (cs : List Collection) → AllZip IsOne types cs
      → AllZip IsCollectionOf types cs × Each IsObject cs
  zip_are [] [] are = (tt, tt)
  zip_are [] (c ∷ cs) are = absurd are
  zip_are (type ∷ types) [] are = absurd are
  zip_are (type ∷ types) (c ∷ cs) are =
      let rest = zip_are types cs are.1 in
      ((are.0.0, rest.0), (are.0.1, rest.1))

  operate_makes : (number : ℕ) (objects : List ℕ) (called : ℕ) (type : Ty)
      (inputs : List (List Value))
      (fits : IsOperated script.functions before objects called type)
      → IsWellTyped fits.function
      → ((n : ℕ) → Contains objects n → is_needed script n ≡ true)
      → AreObjects before objects
      → Makes script number (made.Operate objects called) inputs table type
  operate_makes number objects called type inputs fits typed needed kinds =
      let function = fits.function in
      let all = zip_made IsOne table (λ n t. members_at before n ≡ Some t) objects fits.types
      fits.reads
      (λ n is t reads.
      let it = read objects needed n is t reads in
      record {
        collection = it.collection;
        made = it.made;
        is = (
          it.is,
          made_object script before table are n it.collection
              (each_has (λ m. object_at before m ≡ Some true) objects kinds n is) it.made,
        );
      }) in
      let good = zip_are fits.types all.collections all.are in
      let it = operated_made number function typed type fits.gives fits.types all.collections
      good.0 good.1 fits.takes in
      record {
        collection = it.collection;
        made = ap (option_and_then (λ (f : Function). operated_at number f objects table))
            fits.calls
            ∙ (ap (option_and_then (operated_by number (answer_of function))) all.made
            ∙ it.made_so);
        is = it.is;
        object = λ is. it.object;
      }

  done_with_makes : (number source called object : ℕ) (type : Ty) (inputs : List (List Value))
      (fits : IsDoneWith script.functions before source called object type)
      → IsWellTyped fits.function → IsMadeAt table source fits.member
      → IsMadeAt table object fits.value
      → Makes script number (made.DoWith source called object) inputs table type
  done_with_makes number source called object type inputs fits typed from beside =
      let function = fits.function in
      let c = from.collection in
      let it = done_made number function typed type fits.gives fits.member fits.value fits.takes c
      beside.collection from.is beside.is in
      record {
        collection = it.collection;
        made = ap (option_and_then
            (λ (f : Function). done_beside_at number f source object table)) fits.calls
            ∙ ((λ i. option_and_then (λ d.
            option_and_then (done_beside number (answer_of function) d) (beside.made i))
            (from.made i))
            ∙ it.made_so);
        is = it.is;
        object = λ is. cc;
      }

  -- what a needed node makes
  pub makes : All (λ entry. IsWellTyped entry.1) script.functions → (number : ℕ) (m : Made)
      (type : Ty) (inputs : List (List Value))
      (wanted : List Sourced) → Fits script.functions before m type
      → AreLists (sourced_by m type ++ wanted) inputs
      → ((n : ℕ) → Contains (operands m) n → is_needed script n ≡ true)
      → AreObjects before (values_read m) → Makes script number m inputs table type
  makes typed number (made.Input file columns) type [] wanted fits have needed kinds = absurd have
  makes typed number (made.Input file columns) type (rows ∷ inputs) wanted fits have needed kinds =
      record {
        collection = rows_as rows;
        made = refl;
        is = rows_are type rows have.0.typed;
        object = λ is. cc;
      }
  makes typed number (made.Do source called output) type inputs wanted fits have needed kinds =
      let m = made.Do source called output in
      done_makes number source called output type inputs fits.function
      (well_typed script typed called fits.function fits.calls) fits.calls fits.gives
      (first_read number m needed source [] refl fits.function.signature.takes fits.takes)
  makes typed number (made.Group source) type inputs wanted fits have needed kinds =
      group_makes number source type inputs fits.key fits.value
      (first_read number (made.Group source) needed source [] refl
      (table_of fits.key fits.value) fits.reads)
      fits.gives
  makes typed number (made.Combine source by) type inputs wanted fits have needed kinds =
      let it = first_read number (made.Combine source by) needed source [] refl
      (table_of fits.key (ty.List fits.member)) fits.reads in
      let c = combined_by number by it.collection in
      record {
        collection = c;
        made = ap (option_map (combined_by number by)) it.made;
        is = subst (λ (t : Ty). IsCollectionOf t c) (sym fits.gives)
            (combined_is number by fits.key fits.member fits.value it.collection fits.suits it.is);
        object = λ is. cc;
      }
  makes typed number (made.Flatten sources) type inputs wanted fits have needed kinds =
      let all = all_found table type sources
      (λ n is. read sources needed n is type
      (All-contains (λ (source : ℕ). members_at before source ≡ Some type) sources n
      fits.read is)) in
      record {
        collection = together all.collections;
        made = ap (option_map together) all.made;
        is = together_is type all.collections all.are;
        object = λ is. cc;
      }
  makes typed number (made.Count source) type inputs wanted fits have needed kinds =
      let it = first_read number (made.Count source) needed source [] refl fits.member fits.reads
      in
      let c = counted_by number it.collection in
      record {
        collection = c;
        made = ap (option_map (counted_by number)) it.made;
        is = subst (λ (t : Ty). IsCollectionOf t c) (sym fits.gives)
            (counted_is number fits.member it.collection it.is);
        object = λ is. cc;
      }
  makes typed number (made.Join left right) type inputs wanted fits have needed kinds =
      join_makes number left right type inputs fits.key fits.left_value fits.right_value
      (first_read number (made.Join left right) needed left (right ∷ []) refl
      (table_of fits.key fits.left_value) fits.reads_left)
      (read (left ∷ right ∷ []) needed right (at_tail left (right ∷ []) right (at_head right []))
      (table_of fits.key fits.right_value) fits.reads_right)
      fits.gives
  makes typed number (made.Top many source) type inputs wanted fits have needed kinds =
      let it = first_read number (made.Top many source) needed source [] refl type fits.reads in
      record {
        collection = top_by many it.collection;
        made = ap (option_map (top_by many)) it.made;
        is = top_is many type it.collection it.is;
        object = λ is. cc;
      }
  makes typed number (made.CombineAll source by) type inputs wanted fits have needed kinds =
      let it = first_read number (made.CombineAll source by) needed source [] refl fits.member
      fits.reads in
      let c = it.collection in
      record {
        collection = combined_whole number by c;
        made = ap (option_map (combined_whole number by)) it.made;
        is = whole_is number by fits.member type c fits.suits it.is;
        object = λ is. whole_object number c.traps (combined by c.bag);
      }
  makes typed number (made.Operate objects called) type inputs wanted fits have needed kinds =
      operate_makes number objects called type inputs fits
      (well_typed script typed called fits.function fits.calls) needed kinds
  makes typed number (made.DoWith source called object) type inputs wanted fits have needed kinds =
      let m = made.DoWith source called object in
      done_with_makes number source called object type inputs fits
      (well_typed script typed called fits.function fits.calls)
      (first_read number m needed source (object ∷ []) refl fits.member fits.reads)
      (read (source ∷ object ∷ []) needed object
      (at_tail source (object ∷ []) object (at_head object [])) fits.value fits.reads_object)
  makes typed number (made.Saved is_object call) type [] wanted fits have needed kinds =
      absurd have
  makes typed number (made.Saved is_object call) type (rows ∷ inputs) wanted fits have needed
      kinds =
      record {
        collection = rows_as rows;
        made = refl;
        is = rows_are type rows have.0.typed;
        object = λ is. length-bag_of rows ∙ have.0.one is;
      }

-- the lists behind a node's own
pub rows_behind : (m : Made) (type : Ty) (inputs : List (List Value)) (wanted : List Sourced)
    → AreLists (sourced_by m type ++ wanted) inputs → AreLists wanted (inputs_behind m inputs)
rows_behind (made.Input file columns) type [] wanted have = absurd have
rows_behind (made.Input file columns) type (rows ∷ inputs) wanted have = have.1
rows_behind (made.Saved is_object call) type [] wanted have = absurd have
rows_behind (made.Saved is_object call) type (rows ∷ inputs) wanted have = have.1
rows_behind _ type inputs wanted have = have
