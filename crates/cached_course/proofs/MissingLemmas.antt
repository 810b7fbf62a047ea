-- What was not found, and what is kept of it.
use Rattle.std.proofs.Common.{◌≡◌, ◌∙◌, ◌⊎◌, inl, inr, ℕ, zero, suc, ◌+◌, ◌<◌, ◌≤◌, Bool, true, false, eqb, List, [], ◌∷◌, ◌++◌, take, drop, length, map, Option, Some, None, if◌then◌else◌, slice_get, refl, sym, ap, subst, append_assoc, append-nil, true≢false, ne_eqb, arith}
use Rattle.std.specs.Prelude.{IsSomeAnd}
use Rattle.std.specs.List.{AllByRecursion as Each, AllZip}
use Rattle.std.specs.Option.{option_map}
use Rattle.std.proofs.lemmas.Bool.{eq-eqb, eqb-true}
use Rattle.std.proofs.lemmas.List.{take_all}
use Rattle.cache_store.specs.declared.entry.CacheEntry.{CacheEntry}
use Rattle.flume_collection.specs.Collection.{Collection}
use Rattle.flume_collection.proofs.Members.{head_or_tail, not_in_none}
use Rattle.flume_value.specs.Canonical.{canonical}
use Rattle.flume_value.specs.Ranges.{IsHeld}
use Rattle.flume_value.specs.declared.value.Value.{Value}
use Rattle.kept_results.specs.of_direct_meaning.Direct.{made_at}
use Rattle.kept_results.specs.of_saved_meaning.Found.{bag_or_none}
use Rattle.kept_results.specs.Sizes.{rested_nodes, to_keep}
use Rattle.kept_results.proofs.FoundLemmas.{IsRead, firsts}
use Rattle.kept_results.proofs.of_direct_meaning.PlaceLemmas.{zip_more}
use Rattle.run_course.specs.of_script_run.Comes.{AreMembersOf}
use Rattle.run_course.specs.Written.{CollectionTable}
use Rattle.saved_results.specs.Saved.{saved_value}
use Rattle.saved_results.specs.declared.saved.Saved.{Saved}
use Rattle.script_program.specs.Script.{Script}
use Rattle.script_program.specs.declared.made.Output.{Output}
use Rattle.written_types.specs.Named.{Named}
use Rattle.cached_course.specs.Looked.{missing_as, not_found}
use Rattle.cached_course.specs.declared.missing.Missing.{Missing}
use Rattle.cached_course.specs.inner.Missing.{AreMissing, IsMissing, entry_of, kept_value, members_for, one_of}

-- ---- those that were not found, one after the other

pub missing_next : (script : Script) (so_far : List (ℕ × List ℕ)) (olds news : List Missing)
    (it : ℕ × List ℕ) (missing : Missing) → news ≡ olds ++ missing ∷ []
    → IsMissing script it missing → AreMissing script so_far olds
    → AreMissing script (so_far ++ it ∷ []) news
missing_next script so_far olds news it missing is own are =
    subst (AreMissing script (so_far ++ it ∷ [])) (sym is)
    (zip_more (IsMissing script) so_far olds it missing are own)

pub missing_same : (script : Script) (so_far : List (ℕ × List ℕ)) (missing : List Missing)
    → AreMissing script so_far missing → AreMissing script (so_far ++ []) missing
missing_same script so_far missing are =
    subst (λ l. AreMissing script l missing) (sym (append-nil so_far)) are

-- of one more that is asked for
more_found : (asked : List (ℕ × List ℕ)) (looked : List (Option Saved)) (i : ℕ)
    (it : ℕ × List ℕ) (found : Option Saved) → slice_get asked i ≡ Some it
    → slice_get looked i ≡ Some found
    → not_found (take i asked) (take i looked) ++ missing_as it found
    ≡ not_found (take (suc i) asked) (take (suc i) looked)
more_found [] looked i it found at here = cc
more_found (x ∷ asked) [] i it found at here = cc
more_found (x ∷ asked) (f ∷ looked) zero it found at here =
    let one : x ≡ it = cc in
    let own : f ≡ found = cc in
    (λ k. missing_as (sym one k) (sym own k)) ∙ sym (append-nil (missing_as x f))
more_found (x ∷ asked) (f ∷ looked) (suc i) it found at here =
    append_assoc (missing_as x f) (not_found (take i asked) (take i looked)) (missing_as it found)
    ∙ ap (λ l. missing_as x f ++ l) (more_found asked looked i it found at here)

pub found_more : (asked : List (ℕ × List ℕ)) (looked : List (Option Saved)) (i : ℕ)
    (it : ℕ × List ℕ) (found : Option Saved) → slice_get asked i ≡ Some it
    → slice_get looked i ≡ Some found
    → not_found (take i asked) (take i looked) ++ missing_as it found
    ≡ not_found (take (i + 1) asked) (take (i + 1) looked)
found_more asked looked i it found at here =
    let next : suc i ≡ i + 1 = omega arith in
    more_found asked looked i it found at here
    ∙ ap (λ n. not_found (take n asked) (take n looked)) next

-- what holds of all that is asked for holds of those
missing_each : (P : ℕ → Type 0) (it : ℕ × List ℕ) (rest : List (ℕ × List ℕ)) → P it.0
    → Each (λ (x : ℕ × List ℕ). P x.0) rest → (found : Option Saved)
    → Each (λ (x : ℕ × List ℕ). P x.0) (missing_as it found ++ rest)
missing_each P it rest own all None = (own, all)
missing_each P it rest own all (Some saved) = all

pub not_found_each : (P : ℕ → Type 0) (asked : List (ℕ × List ℕ)) (looked : List (Option Saved))
    → Each P (firsts asked) → Each (λ (it : ℕ × List ℕ). P it.0) (not_found asked looked)
not_found_each P [] looked all = tt
not_found_each P (it ∷ asked) [] all = tt
not_found_each P (it ∷ asked) (found ∷ looked) all =
    missing_each P it (not_found asked looked) all.0
    (not_found_each P asked looked all.1) found

-- ---- their members

of_made : (o : Option Collection) (members : List Value) → IsSomeAnd o (λ c. members ≡ c.bag)
    → members ≡ bag_or_none o
of_made None members are = absurd are
of_made (Some c) members are = are

-- where the first of some outputs reads it, or another
module _ (entry : List ℕ × Output) (outputs : Named Output) (members : List Value)
    (written : List (List Value)) (table : CollectionTable) (number : ℕ)
    (first : AreMembersOf table entry.1.reads members)
    (others : IsRead outputs number
    → members_for outputs written number ≡ bag_or_none (made_at table number)) where
  other_right : eqb entry.1.reads number ≡ false
      → (entry.1.reads ≡ number) ⊎ IsRead outputs number
      → members_for outputs written number ≡ bag_or_none (made_at table number)
  other_right apart (inl same) =
      absurd (true≢false (sym (eq-eqb entry.1.reads number same) ∙ apart))
  other_right apart (inr behind) = others behind

  either_right : IsRead (entry ∷ outputs) number → (b : Bool)
      → eqb entry.1.reads number ≡ b
      → (if b then members else members_for outputs written number)
      ≡ bag_or_none (made_at table number)
  either_right read true same =
      of_made (made_at table entry.1.reads) members first
      ∙ ap (λ n. bag_or_none (made_at table n)) (eqb-true entry.1.reads number same)
  either_right read false apart =
      other_right apart
      (head_or_tail entry.1.reads (map (λ (it : List ℕ × Output). it.1.reads) outputs) number
      read)

-- what the first output writes that reads a collection are its members
members_right : (outputs : Named Output) (written : List (List Value)) (table : CollectionTable)
    (number : ℕ)
    → AllZip (λ output members. AreMembersOf table output.1.reads members) outputs written
    → IsRead outputs number
    → members_for outputs written number ≡ bag_or_none (made_at table number)
members_right [] written table number are read = absurd (not_in_none number read)
members_right (entry ∷ outputs) [] table number are read = absurd are
members_right (entry ∷ outputs) (members ∷ written) table number are read =
    either_right entry outputs members written table number are.0
    (members_right outputs written table number are.1) read (eqb entry.1.reads number) refl

-- ---- from one place on

-- what the output of a place writes, or one behind it
members_next : (outputs : Named Output) (written : List (List Value)) (i number : ℕ)
    (output : Output) (own : List Value)
    → option_map (λ (entry : List ℕ × Output). entry.1) (slice_get outputs i) ≡ Some output
    → slice_get written i ≡ Some own
    → members_for (drop i outputs) (drop i written) number
    ≡ (if eqb output.reads number then own
    else members_for (drop (suc i) outputs) (drop (suc i) written) number)
members_next [] written i number output own at here = cc
members_next (x ∷ outputs) [] i number output own at here = cc
members_next (x ∷ outputs) (w ∷ written) zero number output own at here =
    let one : x.1 ≡ output = cc in
    let mine : w ≡ own = cc in
    λ k. if eqb (one k).reads number then mine k else members_for outputs written number
members_next (x ∷ outputs) (w ∷ written) (suc i) number output own at here =
    members_next outputs written i number output own at here

module _ (outputs : Named Output) (written : List (List Value)) (i number : ℕ) (output : Output)
    (own whole : List Value)
    (at : option_map (λ (entry : List ℕ × Output). entry.1) (slice_get outputs i) ≡ Some output)
    (here : slice_get written i ≡ Some own)
    (is : members_for (drop i outputs) (drop i written) number ≡ whole) where
  abbrev behind_here : List Value
  behind_here = members_for (drop (suc i) outputs) (drop (suc i) written) number

  pub members_here : output.reads ≡ number → own ≡ whole
  members_here same =
      sym (members_next outputs written i number output own at here
      ∙ (λ k. if eq-eqb output.reads number same k then own else behind_here))
      ∙ is

  pub members_behind : (output.reads ≡ number → ⊥)
      → members_for (drop (i + 1) outputs) (drop (i + 1) written) number ≡ whole
  members_behind other =
      let next : i + 1 ≡ suc i = omega arith in
      ap (λ n. members_for (drop n outputs) (drop n written) number) next
      ∙ sym (members_next outputs written i number output own at here
      ∙ (λ k. if ne_eqb output.reads number other k then own else behind_here))
      ∙ is

-- ---- what is kept of them

module _ (script : Script) (nodes_of : Script) (known : List (ℕ × ℕ))
    (written : List (List Value)) (table : CollectionTable)
    (are : AllZip (λ output members. AreMembersOf table output.1.reads members) script.outputs
    written) where
  -- of one, by its number, and its entry
  abbrev pub value_as : ℕ → Value
  value_as number =
      saved_value (to_keep known (rested_nodes nodes_of number)
      (bag_or_none (made_at table number)))

  abbrev pub entry_as : ℕ × List ℕ → CacheEntry
  entry_as it = record { key = it.1; value = canonical (value_as it.0) }

  value_is : (it : ℕ × List ℕ) (missing : Missing) → IsMissing nodes_of it missing
      → IsRead script.outputs it.0 → kept_value script known written missing ≡ value_as it.0
  value_is it missing own read =
      let members = ap (members_for script.outputs written) own.number
      ∙ members_right script.outputs written table it.0 are read in
      λ i. saved_value (to_keep known (own.nodes i) (members i))

  pub entries_are : (asked : List (ℕ × List ℕ)) (missing : List Missing)
      → AreMissing nodes_of asked missing
      → Each (λ (it : ℕ × List ℕ). IsRead script.outputs it.0) asked
      → map (entry_of script known written) missing ≡ map entry_as asked
  entries_are [] [] own read = refl
  entries_are [] (missing ∷ others) own read = absurd own
  entries_are (it ∷ asked) [] own read = absurd own
  entries_are (it ∷ asked) (missing ∷ others) own read =
      let one = value_is it missing own.0 read.0 in
      let key = own.0.key in
      let rest = entries_are asked others own.1 read.1 in
      λ i. record { key = key i; value = canonical (one i) } ∷ rest i

  -- and a program holds each
  pub held_are : (asked : List (ℕ × List ℕ)) (missing : List Missing)
      → AreMissing nodes_of asked missing
      → Each (λ (it : ℕ × List ℕ). IsRead script.outputs it.0) asked
      → Each (λ (it : Missing). IsHeld (kept_value script known written it)) missing
      → Each (λ (it : ℕ × List ℕ). IsHeld (value_as it.0)) asked
  held_are [] [] own read held = tt
  held_are [] (missing ∷ others) own read held = absurd own
  held_are (it ∷ asked) [] own read held = absurd own
  held_are (it ∷ asked) (missing ∷ others) own read held = (
    subst IsHeld (value_is it missing own.0 read.0) held.0,
    held_are asked others own.1 read.1 held.1,
  )

-- ---- one after the other

-- at the end all were looked at
pub missing_end : (asked : List (ℕ × List ℕ)) (looked : List (Option Saved)) (i : ℕ)
    → length asked ≤ i → length looked ≤ i
    → not_found (take i asked) (take i looked) ≡ not_found asked looked
missing_end asked looked i past own =
    λ k. not_found (take_all i asked past k) (take_all i looked own k)

-- of what is left the next one is taken
pub left_one : {X : Type 0} (left : List X) (turn n : ℕ) → length left + turn ≡ n → turn < n
    → length (drop 1 left) + (turn + 1) ≡ n
left_one [] turn n size more = absurd (omega (arith, size, more))
left_one (x ∷ left) turn n size more = omega (arith, size)

pub taken_one : (left : List Missing) → one_of (slice_get left 0) ≡ take 1 left
taken_one [] = refl
taken_one (missing ∷ left) = refl

pub left_map : {X Y : Type 0} (f : X → Y) (left : List X) (old new whole : List Y)
    → new ≡ old ++ map f (take 1 left) → old ++ map f left ≡ whole
    → new ++ map f (drop 1 left) ≡ whole
left_map f [] old new whole is so_far =
    ap (λ l. l ++ []) is ∙ append-nil (old ++ []) ∙ so_far
left_map f (x ∷ left) old new whole is so_far =
    ap (λ l. l ++ map f left) is ∙ append_assoc old (f x ∷ []) (map f left) ∙ so_far

pub left_each : {X : Type 0} (P : X → Type 0) (left : List X) → Each P (take 1 left)
    → Each P (drop 1 left) → Each P left
left_each P [] one rest = tt
left_each P (x ∷ left) one rest = (one.0, rest)

-- and at the end none is left
pub left_none : {X : Type 0} (left : List X) (turn n : ℕ) → length left + turn ≡ n → n ≤ turn
    → left ≡ []
left_none [] turn n size end = refl
left_none (x ∷ left) turn n size end = absurd (omega (arith, size, end))
