-- Collections that are made, by their numbers.
use Rattle.std.proofs.Common.{◌≡◌, ℕ, ◌<◌, true, List, [], ◌∷◌, ◌++◌, length, Option, Some, None, slice_get, refl, sym, ap, ◌∙◌, subst, arith, below_more, length-append}
use Rattle.std.specs.Prelude.{is_some}
use Rattle.std.specs.List.{AllByRecursion as Each, AllZip, Contains}
use Rattle.std.specs.Option.{option_and_then, option_flatten, option_map}
use Rattle.flume_collection.proofs.Members.{at_head, at_tail}
use Rattle.flume_collection.specs.Collection.{Collection}
use Rattle.flume_types.specs.declared.types.Ty.{Ty}
use Rattle.script_laws.specs.of_written_types.Named.{Named}
use Rattle.script_program.specs.Kinds.{gives_object}
use Rattle.script_program.specs.Script.{Node, Script}
use Rattle.script_laws.specs.WellFormed.{members_at, object_at}
use Rattle.direct_meaning.proofs.PlaceLemmas.{at_end, at_front, mapped, zip_at, zip_length, zip_more}
use Rattle.direct_meaning.specs.Direct.{all_made, made_at}
use Rattle.direct_meaning.specs.Made.{AreMade, IsCollectionOf, IsMadeFor, IsObjectFor}
use Rattle.direct_meaning.specs.Objects.{IsObject}
use Rattle.script_program.specs.Needed.{is_needed}

-- a collection is made under that number, of members of that type
pub record IsMadeAt (table : List (Option Collection)) (number : ℕ) (type : Ty) : Type 0 where
  pub collection : Collection
  pub made : made_at table number ≡ Some collection
  pub is : IsCollectionOf type collection

some_of : (table : List (Option Collection)) (number : ℕ) (type : Ty) (entry : List ℕ × Node)
    → entry.1.type ≡ type → (made : Option Collection) → made_at table number ≡ made
    → IsMadeFor entry made → is_some made ≡ true → IsMadeAt table number type
some_of table number type entry same None at is some = cc
some_of table number type entry same (Some c) at is some = record {
  collection = c;
  made = at;
  is = subst (λ (t : Ty). IsCollectionOf t c) same is;
}

module _ (script : Script) (before : Named Node) (table : List (Option Collection))
    (are : AreMade script before table) where
  -- the collection of an earlier node that is needed
  pub found : (number : ℕ) (type : Ty) → members_at before number ≡ Some type
      → number < length before → is_needed script number ≡ true → IsMadeAt table number type
  found number type reads below needed =
      let node = mapped (λ (entry : List ℕ × Node). entry.1.type) (slice_get before number) type
      reads in
      let at = zip_at IsMadeFor before table are.each number node.0 node.1 in
      let made : made_at table number ≡ at.0 = ap option_flatten at.1 in
      some_of table number type node.0 node.2 at.0 made at.2
      (ap is_some (sym made) ∙ (are.needed number below ∙ needed))

  -- what is made under the number of an object is one
  pub made_object : (number : ℕ) (c : Collection) → object_at before number ≡ Some true
      → made_at table number ≡ Some c → IsObject c
  made_object number c kind made =
      let node = mapped (λ (entry : List ℕ × Node). gives_object entry.1.made)
      (slice_get before number) true kind in
      let at = zip_at IsObjectFor before table are.objects number node.0 node.1 in
      let same : at.0 ≡ Some c = sym (ap option_flatten at.1) ∙ made in
      let for_it : IsObjectFor node.0 (Some c) = subst (IsObjectFor node.0) same at.2 in
      for_it node.2

  pub as_many : length table ≡ length before
  as_many = sym (zip_length IsMadeFor before table are.each)

  -- what is made under a number, with one more behind
  front : (number : ℕ) (last : Option Collection) → number < length before
      → made_at (table ++ last ∷ []) number ≡ made_at table number
  front number last below =
      ap option_flatten (at_front table last number (omega (arith, as_many)))

  end : (last : Option Collection) (number : ℕ) → number ≡ length before
      → made_at (table ++ last ∷ []) number ≡ last
  end last number is =
      ap (λ n. made_at (table ++ last ∷ []) n) (is ∙ sym as_many)
      ∙ ap option_flatten (at_end table last [])

  -- one more node, with what it makes where it is needed
  pub more_made : (entry : List ℕ × Node) (last : Option Collection) → IsMadeFor entry last
      → IsObjectFor entry last → is_some last ≡ is_needed script (length before)
      → AreMade script (before ++ entry ∷ []) (table ++ last ∷ [])
  more_made entry last is object needed = record {
    each = zip_more IsMadeFor before table entry last are.each is;
    objects = zip_more IsObjectFor before table entry last are.objects object;
    needed = λ number below.
        below_more (λ n. is_some (made_at (table ++ last ∷ []) n) ≡ is_needed script n)
        (length before) (λ n earlier. ap is_some (front n last earlier) ∙ are.needed n earlier)
        (ap is_some (end last (length before) refl) ∙ needed) number
        (omega (arith, length-append before (entry ∷ [])));
  }

-- ---- several

pub record AllMadeAt (table : List (Option Collection)) (numbers : List ℕ) (type : Ty)
    : Type 0 where
  pub collections : List Collection
  pub made : all_made table numbers ≡ Some collections
  pub are : Each (IsCollectionOf type) collections

pub all_found : (table : List (Option Collection)) (type : Ty) (numbers : List ℕ)
    → ((number : ℕ) → Contains numbers number → IsMadeAt table number type)
    → AllMadeAt table numbers type
all_found table type [] each = record { collections = []; made = refl; are = tt }
all_found table type (number ∷ numbers) each =
    let first = each number (at_head number numbers) in
    let rest = all_found table type numbers (λ n is. each n (at_tail number numbers n is)) in
    record {
      collections = first.collection ∷ rest.collections;
      made = λ i.
          option_and_then (λ c. option_map (λ cs. c ∷ cs) (rest.made i)) (first.made i);
      are = (first.is, rest.are);
    }

-- ---- several, each of a type of its own

module _ (P : Ty → Collection → Type 0) (table : List (Option Collection)) where
  -- a collection is made under that number, and P holds of it and its type
  pub record MadeAs (number : ℕ) (type : Ty) : Type 0 where
    pub collection : Collection
    pub made : made_at table number ≡ Some collection
    pub is : P type collection

  pub record ZipMade (numbers : List ℕ) (types : List Ty) : Type 0 where
    pub collections : List Collection
    pub made : all_made table numbers ≡ Some collections
    pub are : AllZip P types collections

  pub zip_made : (R : ℕ → Ty → Type 0) (numbers : List ℕ) (types : List Ty)
      → AllZip R numbers types
      → ((number : ℕ) → Contains numbers number → (type : Ty) → R number type
      → MadeAs number type)
      → ZipMade numbers types
  zip_made R [] [] zipped each = record { collections = []; made = refl; are = tt }
  zip_made R [] (type ∷ types) zipped each = absurd zipped
  zip_made R (number ∷ numbers) [] zipped each = absurd zipped
  zip_made R (number ∷ numbers) (type ∷ types) zipped each =
      let first = each number (at_head number numbers) type zipped.0 in
      let rest = zip_made R numbers types zipped.1
      (λ n is. each n (at_tail number numbers n is)) in
      record {
        collections = first.collection ∷ rest.collections;
        made = λ i.
            option_and_then (λ c. option_map (λ cs. c ∷ cs) (rest.made i)) (first.made i);
        are = (first.is, rest.are);
      }
