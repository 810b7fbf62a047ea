-- What fits still fits under other numbers, which stand for collections that are seen alike.
use Rattle.std.proofs.Common.{◌≡◌, ℕ, Bool, true, false, List, [], ◌∷◌, map}
use Rattle.std.proofs.Common.{Option, Some, None, slice_get, refl, sym, subst, ap, ◌∙◌}
use Rattle.std.specs.List.{AllByRecursion as Each}
use Rattle.std.specs.Option.{option_map}
use Rattle.flume_types.specs.declared.types.Ty.{Ty}
use Rattle.script_rules.specs.of_written_types.Named.{Named}
use Rattle.script_rules.specs.of_script_program.Kinds.{gives_object, members_read, values_read}
use Rattle.script_rules.specs.of_script_program.declared.made.Made.{Made}
use Rattle.script_rules.specs.of_script_program.declared.made.Made.TheVariants as made
use Rattle.script_rules.specs.of_script_program.Script.{Function, Node}
use Rattle.script_rules.specs.Repeats.{made_from_others}
use Rattle.script_laws.specs.WellFormed.{Fits, ReadsKinds, members_at, object_at}
use Rattle.script_laws.proofs.FitLemmas.{fits-kept}

abbrev type_of : Option (List ℕ × Node) → Option Ty
type_of entry = option_map (λ (e : List ℕ × Node). e.1.type) entry

abbrev kind_of : Option (List ℕ × Node) → Option Bool
kind_of entry = option_map (λ (e : List ℕ × Node). gives_object e.1.made) entry

-- a collection as others see it: the type of its members, and whether it is an object
abbrev pub sight_in : List ℕ × Node → Ty × Bool
sight_in entry = (entry.1.type, gives_object entry.1.made)

abbrev pub sight_of : Option (List ℕ × Node) → Option (Ty × Bool)
sight_of entry = option_map sight_in entry

-- numbers of one list stand for collections of another that are seen alike
abbrev pub KeepsSight : (ℕ → ℕ) → Named Node → Named Node → Type 0
KeepsSight to front real = (n : ℕ) (x : Ty × Bool) → sight_of (slice_get front n) ≡ Some x
    → sight_of (slice_get real (to n)) ≡ Some x

-- ---- types and kinds apart, and both

pub sight : (o : Option (List ℕ × Node)) (t : Ty) (b : Bool) → type_of o ≡ Some t
    → kind_of o ≡ Some b → sight_of o ≡ Some (t, b)
sight None t b type kind = cc
sight (Some entry) t b type kind =
    let same : entry.1.type ≡ t = cc in
    let alike : gives_object entry.1.made ≡ b = cc in
    λ i. Some (same i, alike i)

part-in : {Y : Type 0} (part : Ty × Bool → Y) (o : Option (List ℕ × Node)) (x : Ty × Bool)
    → sight_of o ≡ Some x
    → option_map (λ (e : List ℕ × Node). part (sight_in e)) o ≡ Some (part x)
part-in part None x is = cc
part-in part (Some entry) x is =
    let same : sight_in entry ≡ x = cc in
    ap (λ (y : Ty × Bool). Some (part y)) same

with-part : {Y : Type 0} (part : Ty × Bool → Y) (o p : Option (List ℕ × Node)) (y : Y)
    → ((x : Ty × Bool) → sight_of o ≡ Some x → sight_of p ≡ Some x)
    → option_map (λ (e : List ℕ × Node). part (sight_in e)) o ≡ Some y
    → option_map (λ (e : List ℕ × Node). part (sight_in e)) p ≡ Some y
with-part part None p y keeps is = cc
with-part part (Some entry) p y keeps is =
    part-in part p (sight_in entry) (keeps (sight_in entry) refl) ∙ is

-- ---- under other numbers

-- a collection stays an object
pub kind-kept : (to : ℕ → ℕ) (how : Made)
    → gives_object (made_from_others to how) ≡ gives_object how
kind-kept to (made.Input file columns) = refl
kind-kept to _ = refl

members-kept : (to : ℕ → ℕ) (how : Made)
    → members_read (made_from_others to how) ≡ map to (members_read how)
members-kept to (made.Input file columns) = refl
members-kept to _ = refl

values-kept : (to : ℕ → ℕ) (how : Made)
    → values_read (made_from_others to how) ≡ map to (values_read how)
values-kept to (made.Input file columns) = refl
values-kept to _ = refl

module _ (to : ℕ → ℕ) (front real : Named Node) (keeps : KeepsSight to front real) where
  keeps-type : (n : ℕ) (type : Ty) → members_at front n ≡ Some type
      → members_at real (to n) ≡ Some type
  keeps-type n type is =
      with-part (λ x. x.0) (slice_get front n) (slice_get real (to n)) type (keeps n) is

  keeps-kind : (n : ℕ) (b : Bool) → object_at front n ≡ Some b
      → object_at real (to n) ≡ Some b
  keeps-kind n b is =
      with-part (λ x. x.1) (slice_get front n) (slice_get real (to n)) b (keeps n) is

  keeps-kinds : (b : Bool) (numbers : List ℕ) → Each (λ n. object_at front n ≡ Some b) numbers
      → Each (λ n. object_at real n ≡ Some b) (map to numbers)
  keeps-kinds b [] all = tt
  keeps-kinds b (number ∷ numbers) all =
      (keeps-kind number b all.0, keeps-kinds b numbers all.1)

  pub kinds-renumbered : (how : Made) → ReadsKinds front how
      → ReadsKinds real (made_from_others to how)
  kinds-renumbered how reads = record {
    members =
        subst (Each (λ n. object_at real n ≡ Some false)) (sym (members-kept to how))
        (keeps-kinds false (members_read how) reads.members);
    values =
        subst (Each (λ n. object_at real n ≡ Some true)) (sym (values-kept to how))
        (keeps-kinds true (values_read how) reads.values);
  }

  pub fits-renumbered : (functions : Named Function) (how : Made) (type : Ty)
      → Fits functions front how type → Fits functions real (made_from_others to how) type
  fits-renumbered functions =
      fits-kept functions functions front real to (λ called function is. is) keeps-type
