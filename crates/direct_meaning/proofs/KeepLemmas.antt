-- What is kept of what steps make of collections, and whose traps these are.
use Rattle.std.proofs.Common.{◌≡◌, ℕ, zero, suc, ◌||◌, false, List, [], ◌∷◌, ◌++◌, map, Option, Some, slice_get, refl, sym, ap, ◌∙◌, subst, arith, append-nil}
use Rattle.std.specs.List.{Contains, flat_map, list_any}
use Rattle.std.specs.Option.{option_and_then, option_flatten, option_map}
use Rattle.std.proofs.lemmas.List.Elements.{Contains-append_left, Contains-append_right}
use Rattle.flume_value.proofs.BagLemmas.{bag_of-settled}
use Rattle.flume_value.specs.Bag.{bag_of}
use Rattle.flume_value.specs.declared.fault.Kind.{Kind}
use Rattle.flume_value.specs.declared.value.Value.{Value}
use Rattle.flume_types.specs.declared.types.Ty.{Ty}
use Rattle.bag_groups.specs.Combining.{combined_each, traps_of_each}
use Rattle.bag_groups.specs.Groups.{grouped}
use Rattle.bag_steps.specs.Counts.{counted, counted_traps}
use Rattle.bag_steps.specs.Joins.{joined}
use Rattle.combine_table.specs.Combinations.{combined, greatest}
use Rattle.combine_table.specs.declared.comb.Comb.{Comb}
use Rattle.flume_collection.proofs.Members.{at_head, at_tail}
use Rattle.flume_collection.specs.Calls.{Called, trap_named, trap_of}
use Rattle.flume_collection.specs.Collection.{Collection, by_key, together, unless_trapped}
use Rattle.flume_collection.specs.Traps.{trap_set}
use Rattle.flume_collection.specs.declared.trap.Trap.{Trap}
use Rattle.direct_meaning.proofs.CallLemmas.{emitted_all, trapped_all}
use Rattle.direct_meaning.proofs.StandLemmas.{HasOwn, Source, all_traps, some_made}
use Rattle.direct_meaning.proofs.TrapLemmas.{AreAmong, absorbed, among-append, known_all, traps-append, traps-set, unless-same}
use Rattle.direct_meaning.specs.Calls.{answers_on}
use Rattle.direct_meaning.specs.Direct.{all_made, called_by, combined_by, counted_by, counts_behind, joined_collections, made_at, top_by, traps_behind}
use Rattle.direct_meaning.specs.Made.{IsCollectionOf}
use Rattle.direct_meaning.specs.declared.kept.Kept.{Kept}
use Rattle.direct_meaning.specs.inner.Kept.{Keeps, has_traps, is_trapped, kept_in, members_of, unless_behind}
use Rattle.direct_meaning.specs.Objects.{only, value_of, object_values}
use Rattle.direct_meaning.specs.inner.Objects.{value_kept, values_in}
use Rattle.direct_meaning.specs.inner.Slots.{IsDoneBy, emitted_by, traps_on}

-- ---- the traps of what is made are known

among_at : (table : List (Option Collection)) (number : ℕ) (c : Collection)
    → slice_get table number ≡ Some (Some c) → AreAmong (all_traps table) c.traps
among_at [] number c is trap in_it = cc
among_at (made ∷ table) zero c is trap in_it =
    let same : made ≡ Some c = cc in
    Contains-append_left (traps_behind made) (all_traps table) trap
    (subst (λ (o : Option Collection). Contains (traps_behind o) trap) (sym same) in_it)
among_at (made ∷ table) (suc number) c is trap in_it =
    Contains-append_right (traps_behind made) (all_traps table) trap
    (among_at table number c is trap in_it)

pub among_made : (table : List (Option Collection)) (number : ℕ) (c : Collection)
    → made_at table number ≡ Some c → AreAmong (all_traps table) c.traps
among_made table number c is =
    among_at table number c (some_made (slice_get table number) c is)

-- a collection that has known traps alone
pub known_own : (table : List (Option Collection)) (c : Collection)
    → AreAmong (all_traps table) c.traps → HasOwn table [] c
known_own table c among =
    known_all (all_traps table) c.traps among
    ∙ ap trap_set (sym (append-nil (all_traps table)))

-- one that has a set of known traps and of its own
set_own : (table : List (Option Collection)) (behind own traps : List Trap)
    → AreAmong (all_traps table) behind → traps ≡ trap_set (behind ++ own)
    → trap_set (all_traps table ++ traps) ≡ trap_set (all_traps table ++ own)
set_own table behind own traps among is =
    ap (λ (l : List Trap). trap_set (all_traps table ++ l)) is
    ∙ absorbed (all_traps table) behind own among

-- one that has a set of known traps alone
pub set_known_own : (table : List (Option Collection)) (behind traps : List Trap)
    → AreAmong (all_traps table) behind → traps ≡ trap_set behind
    → trap_set (all_traps table ++ traps) ≡ trap_set (all_traps table ++ [])
set_known_own table behind traps among is =
    set_own table behind [] traps among
    (is ∙ ap trap_set (sym (append-nil behind)))

-- ---- steps on one collection

unless_kept : (f : List Value → List Value) (result held : Kept) (c : Collection) → Keeps held c
    → result.members ≡ unless_behind held.trapped (f held.members)
    → result.members ≡ unless_trapped c.traps (f c.bag)
unless_kept f result held c keeps is =
    is ∙ ((λ i. unless_behind (keeps.trapped i) (f (keeps.members i)))
    ∙ unless-same c.traps (f c.bag))

pub by_key_kept : (result held : Kept) (c : Collection) → Keeps held c
    → result.members ≡ unless_behind held.trapped (grouped held.members)
    → result.trapped ≡ held.trapped → Keeps result (by_key c)
by_key_kept result held c keeps members trapped = record {
  members = unless_kept grouped result held c keeps members;
  trapped = trapped ∙ keeps.trapped;
}

pub by_key_own : (table : List (Option Collection)) (number : ℕ) (c : Collection)
    → made_at table number ≡ Some c → HasOwn table [] (by_key c)
by_key_own table number c made = known_own table (by_key c) (among_made table number c made)

pub top_kept : (number : ℕ) (type : Ty) (result held : Kept) (c : Collection) → Keeps held c
    → IsCollectionOf type c
    → result.members
    ≡ unless_behind held.trapped (greatest number (bag_of held.members))
    → result.trapped ≡ held.trapped → Keeps result (top_by number c)
top_kept number type result held c keeps is members trapped = record {
  members = unless_kept (λ bag. greatest number (bag_of bag)) result held c keeps members
      ∙ ap (λ (bag : List Value). unless_trapped c.traps (greatest number bag))
      (bag_of-settled c.bag is.ascending);
  trapped = trapped ∙ keeps.trapped;
}

pub top_own : (table : List (Option Collection)) (number many : ℕ) (c : Collection)
    → made_at table number ≡ Some c → HasOwn table [] (top_by many c)
top_own table number many c made =
    known_own table (top_by many c) (among_made table number c made)

-- ---- counts

counts_kept : (origin : ℕ) (traps : List Trap) (bag : List Value) (result : Kept)
    → result.members ≡ unless_behind (has_traps traps) (counted bag)
    → result.trapped ≡ has_traps traps → (has_traps traps ≡ false → counted_traps bag ≡ [])
    → Keeps result (counts_behind origin traps bag)
counts_kept origin [] bag result members trapped through = record {
  members = members;
  trapped = trapped
      ∙ ap (λ (l : List (Kind × Value)). has_traps (trap_set (map (trap_named origin) l)))
      (sym (through refl));
}
counts_kept origin (trap ∷ traps) bag result members trapped through = record {
  members = members;
  trapped = trapped;
}

abbrev pub GoesThrough : Kept → Type 0
GoesThrough held = held.trapped ≡ false → counted_traps held.members ≡ []

goes_through : (held : Kept) (c : Collection) → Keeps held c → GoesThrough held
    → has_traps c.traps ≡ false → counted_traps c.bag ≡ []
goes_through held c keeps through none =
    ap counted_traps (sym keeps.members) ∙ through (keeps.trapped ∙ none)

pub counted_kept : (origin : ℕ) (result held : Kept) (c : Collection) → Keeps held c
    → result.members ≡ unless_behind held.trapped (counted held.members)
    → result.trapped ≡ held.trapped → GoesThrough held → Keeps result (counted_by origin c)
counted_kept origin result held c keeps members trapped through =
    counts_kept origin c.traps c.bag result
    (members ∙ (λ i. unless_behind (keeps.trapped i) (counted (keeps.members i))))
    (trapped ∙ keeps.trapped) (goes_through held c keeps through)

counts_own : (table : List (Option Collection)) (origin : ℕ) (traps : List Trap)
    (bag : List Value) → AreAmong (all_traps table) traps
    → (has_traps traps ≡ false → counted_traps bag ≡ [])
    → HasOwn table [] (counts_behind origin traps bag)
counts_own table origin [] bag among through =
    ap (λ (l : List (Kind × Value)).
    trap_set (all_traps table ++ trap_set (map (trap_named origin) l)))
    (through refl)
counts_own table origin (trap ∷ traps) bag among through =
    known_own table (counts_behind origin (trap ∷ traps) bag) among

pub counted_own : (table : List (Option Collection)) (number origin : ℕ) (held : Kept)
    (c : Collection) → made_at table number ≡ Some c → Keeps held c → GoesThrough held
    → HasOwn table [] (counted_by origin c)
counted_own table number origin held c made keeps through =
    counts_own table origin c.traps c.bag (among_made table number c made)
    (goes_through held c keeps through)

-- ---- joins

pub joined_kept : (result left right : Kept) (a b : Collection) → Keeps left a → Keeps right b
    → result.members ≡ unless_behind (left.trapped || right.trapped)
    (joined left.members right.members)
    → result.trapped ≡ (left.trapped || right.trapped) → Keeps result (joined_collections a b)
joined_kept result left right a b lefts rights members trapped =
    let either : (left.trapped || right.trapped) ≡ has_traps (a.traps ++ b.traps)
    = (λ i. lefts.trapped i || rights.trapped i) ∙ sym (traps-append a.traps b.traps) in
    record {
      members = members
          ∙ ((λ i. unless_behind (either i) (joined (lefts.members i) (rights.members i)))
          ∙ unless-same (a.traps ++ b.traps) (joined a.bag b.bag));
      trapped = trapped ∙ (either ∙ sym (traps-set (a.traps ++ b.traps)));
    }

pub joined_own : (table : List (Option Collection)) (left right : ℕ) (a b : Collection)
    → made_at table left ≡ Some a → made_at table right ≡ Some b
    → HasOwn table [] (joined_collections a b)
joined_own table left right a b first second =
    set_known_own table (a.traps ++ b.traps) (trap_set (a.traps ++ b.traps))
    (among-append (all_traps table) a.traps b.traps (among_made table left a first)
    (among_made table right b second))
    refl

-- ---- combinations

abbrev pub own_combined : ℕ → Comb → List Value → List Trap
own_combined origin comb bag = map (trap_named origin) (traps_of_each (combined comb) bag)

pub combined_kept : (origin : ℕ) (comb : Comb) (result held : Kept) (c : Collection)
    → Keeps held c → result.members ≡ combined_each (combined comb) held.members
    → result.trapped ≡ (held.trapped || has_traps (own_combined origin comb held.members))
    → Keeps result (combined_by origin comb c)
combined_kept origin comb result held c keeps members trapped = record {
  members = members ∙ ap (combined_each (combined comb)) keeps.members;
  trapped = trapped
      ∙ ((λ i. keeps.trapped i || has_traps (own_combined origin comb (keeps.members i)))
      ∙ (sym (traps-append c.traps (own_combined origin comb c.bag))
      ∙ sym (traps-set (c.traps ++ own_combined origin comb c.bag))));
}

pub combined_own : (table : List (Option Collection)) (number origin : ℕ) (comb : Comb)
    (held : Kept) (c : Collection) → made_at table number ≡ Some c → Keeps held c
    → HasOwn table (own_combined origin comb held.members) (combined_by origin comb c)
combined_own table number origin comb held c made keeps =
    set_own table c.traps (own_combined origin comb held.members)
    (trap_set (c.traps ++ own_combined origin comb c.bag)) (among_made table number c made)
    (λ i. trap_set (c.traps ++ own_combined origin comb (sym keeps.members i)))

-- ---- collections together

-- the value of an object is kept
pub value_same : (held : Kept) (c : Collection) → Keeps held c → value_kept held ≡ value_of c
value_same held c keeps =
    (λ i. only (unless_behind (keeps.trapped i) (keeps.members i)))
    ∙ ap (λ (bag : List Value). only bag) (unless-same c.traps c.bag)

-- what is kept of the collections of these numbers stands for them
pub record Stood (kept : List (Option Kept)) (table : List (Option Collection))
    (numbers : List ℕ) : Type 0 where
  pub collections : List Collection
  pub made : all_made table numbers ≡ Some collections
  pub members : flat_map (λ number. members_of (kept_in kept number)) numbers
      ≡ flat_map (λ c. c.bag) collections
  pub trapped : list_any (λ number. is_trapped (kept_in kept number)) numbers
      ≡ has_traps (flat_map (λ c. c.traps) collections)
  pub values : values_in kept numbers ≡ object_values collections
  pub known : AreAmong (all_traps table) (flat_map (λ c. c.traps) collections)

pub nothing_among : (known : List Trap) → AreAmong known []
nothing_among known trap is = let below = is.1 in absurd (omega arith)

pub all_stand : (kept : List (Option Kept)) (table : List (Option Collection))
    (numbers : List ℕ)
    → ((number : ℕ) → Contains numbers number → (type : Ty) × Source kept table number type)
    → Stood kept table numbers
all_stand kept table [] each = record {
  collections = [];
  made = refl;
  members = refl;
  trapped = refl;
  values = refl;
  known = nothing_among (all_traps table);
}
all_stand kept table (number ∷ numbers) each =
    let first = (each number (at_head number numbers)).1 in
    let rest = all_stand kept table numbers (λ n is. each n (at_tail number numbers n is)) in
    let c = first.from.collection in
    record {
      collections = c ∷ rest.collections;
      made = λ i.
          option_and_then (λ d. option_map (λ cs. d ∷ cs) (rest.made i)) (first.from.made i);
      members = (λ i. members_of (option_flatten (first.at i))
          ++ flat_map (λ n. members_of (kept_in kept n)) numbers)
          ∙ (λ i. first.keeps.members i ++ rest.members i);
      trapped = (λ i. is_trapped (option_flatten (first.at i))
          || list_any (λ n. is_trapped (kept_in kept n)) numbers)
          ∙ ((λ i. first.keeps.trapped i || rest.trapped i)
          ∙ sym (traps-append c.traps (flat_map (λ (d : Collection). d.traps) rest.collections)));
      values = (λ i. option_and_then (λ v. option_map (λ vs. v ∷ vs) (values_in kept numbers))
          (option_and_then value_kept (option_flatten (first.at i))))
          ∙ (λ i. option_and_then (λ v. option_map (λ vs. v ∷ vs) (rest.values i))
          (value_same first.held c first.keeps i));
      known = among-append (all_traps table) c.traps
          (flat_map (λ (d : Collection). d.traps) rest.collections)
          (among_made table number c first.from.made) rest.known;
    }

pub together_kept : (kept : List (Option Kept)) (table : List (Option Collection))
    (numbers : List ℕ) (stood : Stood kept table numbers) (result : Kept)
    → result.members
    ≡ bag_of (flat_map (λ number. members_of (kept_in kept number)) numbers)
    → result.trapped ≡ list_any (λ number. is_trapped (kept_in kept number)) numbers
    → Keeps result (together stood.collections)
together_kept kept table numbers stood result members trapped = record {
  members = members ∙ ap bag_of stood.members;
  trapped = trapped
      ∙ (stood.trapped
      ∙ sym (traps-set (flat_map (λ (c : Collection). c.traps) stood.collections)));
}

pub together_own : (kept : List (Option Kept)) (table : List (Option Collection))
    (numbers : List ℕ) (stood : Stood kept table numbers)
    → HasOwn table [] (together stood.collections)
together_own kept table numbers stood =
    set_known_own table (flat_map (λ (c : Collection). c.traps) stood.collections)
    (trap_set (flat_map (λ (c : Collection). c.traps) stood.collections)) stood.known refl

-- ---- calls

pub called_kept : (origin output : ℕ) (answer : Value → Option Called) (calls : List Called)
    (result held : Kept) (c : Collection) (before after : List Trap) → Keeps held c
    → answers_on answer c.bag ≡ Some calls
    → IsDoneBy origin output answer held result before after
    → Keeps result (called_by origin output c.traps calls)
called_kept origin output answer calls result held c before after keeps are done =
    let own = (λ i. traps_on origin answer (keeps.members i))
    ∙ trapped_all origin answer c.bag calls are in
    record {
      members = done.members
          ∙ ((λ i. bag_of (flat_map (λ x. emitted_by output (answer x)) (keeps.members i)))
          ∙ ap bag_of (emitted_all output answer c.bag calls are));
      trapped = done.trapped
          ∙ ((λ i. keeps.trapped i || has_traps (own i))
          ∙ (sym (traps-append c.traps (flat_map (trap_of origin) calls))
          ∙ sym (traps-set (c.traps ++ flat_map (trap_of origin) calls))));
    }

pub called_own : (table : List (Option Collection)) (number origin output : ℕ)
    (answer : Value → Option Called) (calls : List Called) (held : Kept) (c : Collection)
    → made_at table number ≡ Some c → Keeps held c → answers_on answer c.bag ≡ Some calls
    → HasOwn table (traps_on origin answer held.members)
    (called_by origin output c.traps calls)
called_own table number origin output answer calls held c made keeps are =
    let own : flat_map (trap_of origin) calls ≡ traps_on origin answer held.members
    = sym ((λ i. traps_on origin answer (keeps.members i))
    ∙ trapped_all origin answer c.bag calls are) in
    set_own table c.traps (traps_on origin answer held.members)
    (trap_set (c.traps ++ flat_map (trap_of origin) calls)) (among_made table number c made)
    (λ i. trap_set (c.traps ++ own i))
