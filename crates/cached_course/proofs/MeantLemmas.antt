-- A run over a sound cache means what the script means, and leaves a sound cache.
use Rattle.std.proofs.Common.{◌≡◌, ◌∙◌, ℕ, List, [], ◌∷◌, map, Option, Some, None, refl, sym, ap, subst, true≢false}
use Rattle.std.specs.Prelude.{IfSome, IsSomeAnd}
use Rattle.std.specs.List.{AllByRecursion as Each, Contains}
use Rattle.cache_store.specs.declared.entry.CacheEntry.{CacheEntry}
use Rattle.cache_store.specs.Seen.{SeenCache}
use Rattle.flume_collection.specs.declared.trap.Trap.{Trap}
use Rattle.flume_value.proofs.EachLemmas.{Each-both, Each-map, Each-weaker}
use Rattle.flume_value.specs.Canonical.{canonical}
use Rattle.flume_value.specs.Ranges.{IsHeld}
use Rattle.flume_value.specs.declared.value.Value.{Value}
use Rattle.kept_results.specs.Asked.{asked_nodes}
use Rattle.kept_results.specs.Keeping.{KeptUnlessFailed}
use Rattle.kept_results.specs.Kept.{AreFound, AreKept}
use Rattle.kept_results.specs.Lists.{HasMembers, found_of, rows_for_script, later_of}
use Rattle.kept_results.specs.of_direct_meaning.Direct.{made_at, meaning, traps_of}
use Rattle.kept_results.specs.of_direct_meaning.Inputs.{AreInputs, inputs_of}
use Rattle.kept_results.specs.of_direct_meaning.Made.{AreMade}
use Rattle.kept_results.specs.of_saved_meaning.Found.{IsSame, MayBeFound as IsClean, MeansSame, lists_for}
use Rattle.kept_results.specs.of_script_laws.WellFormed.{IsWellFormed}
use Rattle.kept_results.proofs.FoundLemmas.{IsRead, firsts, found_each}
use Rattle.kept_results.proofs.ListLemmas.{numbers_of}
use Rattle.kept_results.proofs.of_saved_meaning.Clean.{clean-table}
use Rattle.kept_results.proofs.of_script_laws.RuleLemmas.{unsaved, well-formed}
use Rattle.kept_results.proofs.of_script_laws.SavedLemmas.{saved-well}
use Rattle.key_meaning.specs.Keyed.{IsSameFor, Keyed, key}
use Rattle.key_meaning.specs.Rested.{rested_sizes}
use Rattle.outside.specs.Told.{WhereTold}
use Rattle.outside.specs.declared.file.File.{File}
use Rattle.run_course.specs.of_script_loading.Loads.{AllHaveRows}
use Rattle.run_course.specs.Written.{CollectionTable}
use Rattle.saved_results.specs.Saved.{saved_value}
use Rattle.saved_results.specs.declared.saved.Saved.{Saved}
use Rattle.saved_results.specs.declared.saved.Size.{Size}
use Rattle.script_program.specs.Saved.{HasNoSaved, with_saved}
use Rattle.script_program.specs.Script.{Script}
use Rattle.cached_course.specs.Answers.{HasLooked, found}
use Rattle.cached_course.specs.Kept.{HasKept, bytes_kept, entries_kept, value_kept}
use Rattle.cached_course.specs.Looked.{not_found}
use Rattle.cached_course.specs.Promises.{IsAsMeant}
use Rattle.cached_course.specs.Reused.{IsReused}
use Rattle.cached_course.specs.Sound.{AreSound, TellsSoundEntries, line_size, what_is_saved, value_of_kept}
use Rattle.cached_course.proofs.AskedLemmas.{keyed_read, same_firsts}
use Rattle.cached_course.proofs.KeyedLemmas.{IsKeyedBy, IsMeantBy, all_keyed, found_meant, has_members, is_clean, keyed_here}
use Rattle.cached_course.proofs.SoundLemmas.{files_same, sizes_same, table_same, value_same}
use Rattle.cached_course.specs.inner.Laws.{MeantLaw, SoundLaw}
use Rattle.cached_course.proofs.EntryLemmas.{IsSoundEntry, each_first, not_found_all, told_sound}

-- what the laws of the crates below say
pub record Laws : Type 0 where
  pub meaning_of : (script : Script) (inputs : List (List Value)) → IsWellFormed script
      → AreInputs script inputs
      → (made : CollectionTable) × (meaning script inputs ≡ Some made)
      × AreMade script script.nodes made
  pub rows_are : (told : Option (List File)) (script : Script) (rows : List (List Value))
      → HasNoSaved script → AllHaveRows told (inputs_of script) rows → AreInputs script rows
  pub given_are : (script : Script) (asked : List (ℕ × List ℕ)) (looked : List (Option Saved))
      (rows : List (List Value)) → IsWellFormed script → HasNoSaved script
      → firsts asked ≡ firsts (asked_nodes script) → AreKept script asked looked
      → AreInputs script rows
      → AreInputs (later_of script (found_of asked looked))
      (rows_for_script script (found_of asked looked) rows)
  pub given_same : (script : Script) (asked : List (ℕ × List ℕ)) (looked : List (Option Saved))
      (rows : List (List Value)) (table : CollectionTable) → IsWellFormed script → HasNoSaved script
      → firsts asked ≡ firsts (asked_nodes script) → AreKept script asked looked
      → Each (HasMembers table) (found_of asked looked)
      → rows_for_script script (found_of asked looked) rows
      ≡ lists_for script (later_of script (found_of asked looked)) rows table
  pub saved_means : (script : Script) (numbers : List ℕ) (rows : List (List Value))
      (table : CollectionTable) → IsWellFormed script → HasNoSaved script
      → meaning script rows ≡ Some table → AreMade script script.nodes table
      → Each (IsClean table) numbers → MeansSame script (with_saved numbers script) rows table
  pub saved_through : (script : Script) (numbers : List ℕ) (rows : List (List Value))
      (table own : CollectionTable) → IsWellFormed script → HasNoSaved script
      → meaning script rows ≡ Some table → AreMade script script.nodes table
      → IsSame (with_saved numbers script) table own → traps_of own ≡ [] → traps_of table ≡ []
  pub saved_trapped : (script : Script) (numbers : List ℕ) (table own : CollectionTable)
      (trap : Trap) → IsSame (with_saved numbers script) table own → Contains (traps_of own) trap
      → Contains (traps_of table) trap

-- ---- sizes

sizes_kept_so : (lines : List (List ℕ × ℕ))
    → map (λ (size : Size). size.members) (map line_size lines)
    ≡ map (λ (line : List ℕ × ℕ). line.1) lines
sizes_kept_so [] = refl
sizes_kept_so (line ∷ lines) = ap (λ l. line.1 ∷ l) (sizes_kept_so lines)

-- ---- a run

module _ (laws : Laws) (words : List (List ℕ)) (told : List File) (cache later : SeenCache)
    (entries : List CacheEntry) (tells : cache.entries ≡ Some entries) (sound : AreSound entries)
    (it : HasLooked words (Some told) cache later) (rows : List (List Value))
    (table : CollectionTable) (reused : IsReused (Some told) it.script (found it) rows table) where
  abbrev script : Script
  script = it.script

  abbrev numbers : List ℕ
  numbers = numbers_of (found it)

  well : IsWellFormed script
  well = well-formed it.of_script.loaded.2.ast.statements script it.of_script.loaded.2.checked

  plain : HasNoSaved script
  plain = unsaved it.of_script.loaded.2.ast.statements script it.of_script.loaded.2.checked

  inputs : AreInputs script rows
  inputs = laws.rows_are (Some told) script rows plain reused.inputs

  abbrev made : CollectionTable
  made = (laws.meaning_of script rows well inputs).0

  means : meaning script rows ≡ Some made
  means = (laws.meaning_of script rows well inputs).1

  are : AreMade script script.nodes made
  are = (laws.meaning_of script rows well inputs).2

  firsts_here : firsts it.asked ≡ firsts (asked_nodes script)
  firsts_here =
      ap firsts it.of_script.keyed
      ∙ same_firsts script it.of_script.outlines it.of_script.texts it.of_script.files

  reads : Each (IsRead script.outputs) (firsts it.asked)
  reads =
      subst (λ (l : List (ℕ × List ℕ)). Each (IsRead script.outputs) (firsts l))
      (sym it.of_script.keyed)
      (keyed_read script it.of_script.outlines it.of_script.texts it.of_script.files)

  found_reads : Each (IsRead script.outputs) numbers
  found_reads =
      Each-map (IsRead script.outputs) (λ (x : ℕ × Saved). x.0) (found it)
      (found_each (IsRead script.outputs) it.asked it.looked reads)

  -- what was found is what the script means
  abbrev IsMeant : ℕ × Saved → Type 0
  IsMeant = IsMeantBy told it.name script it.asked it.of_script rows reused.inputs made means

  meant : Each IsMeant (found it)
  meant =
      found_meant told it.name script it.asked it.of_script rows reused.inputs made means entries
      sound it.looked
      (subst (λ (o : Option (List CacheEntry)).
      IfSome o (λ es. AreFound script es it.asked it.looked)) tells it.was.found)

  members : Each (HasMembers made) (found it)
  members =
      Each-weaker IsMeant (HasMembers made)
      (has_members told it.name script it.asked it.of_script rows reused.inputs made means)
      (found it) meant

  cleans : Each (IsClean made) numbers
  cleans =
      Each-map (IsClean made) (λ (x : ℕ × Saved). x.0) (found it)
      (Each-weaker IsMeant (λ (x : ℕ × Saved). IsClean made x.0)
      (is_clean told it.name script it.asked it.of_script rows reused.inputs made means)
      (found it) meant)

  abbrev HasSizes : ℕ × Saved → Type 0
  HasSizes x = map (λ (size : Size). size.members) x.1.sizes
      ≡ map (λ (line : List ℕ × ℕ). line.1) (rested_sizes script made x.0)

  sizes : Each HasSizes (found it)
  sizes =
      Each-weaker IsMeant HasSizes
      (λ x own.
      ap (λ (saved : Saved). map (λ (size : Size). size.members) saved.sizes) own.saved
      ∙ sizes_kept_so (rested_sizes script made x.0)) (found it) meant

  same : IsSame (later_of script (found it)) made table
  same =
      table_same script (found it) rows made table
      (laws.saved_means script numbers rows made well plain means are cleans)
      (laws.given_same script it.asked it.looked rows made well plain firsts_here it.was.kept
      members)
      reused.means

  own : AreMade (later_of script (found it)) (later_of script (found it)).nodes table
  own =
      let all =
      laws.meaning_of (later_of script (found it)) (rows_for_script script (found it) rows)
      (saved-well script well numbers)
      (laws.given_are script it.asked it.looked rows well plain firsts_here it.was.kept inputs) in
      let both : Some all.0 ≡ Some table = sym all.1 ∙ reused.means in
      let is : all.0 ≡ table = cc both in
      subst
      (λ (t : CollectionTable). AreMade (later_of script (found it))
      (later_of script (found it)).nodes t) is all.2

  through : traps_of table ≡ [] → traps_of made ≡ []
  through none = laws.saved_through script numbers rows made table well plain means are same none

  pub as_meant : IsAsMeant (Some told) script (found it) rows table
  as_meant = record {
    made = made;
    meant = record { inputs = reused.inputs; means = means };
    files = files_same script well (found it) found_reads made table are own same sizes;
    sizes = sizes_same script well (found it) found_reads made table are own same sizes;
    through = through;
    trapped = λ trap among. laws.saved_trapped script numbers made table trap same among;
  }

  -- ---- what it leaves

  module _ (none : traps_of table ≡ [])
      (key_law : (one other : Keyed) → key one ≡ key other → IsSameFor one other)
      (clean_law : (one other : Keyed) (alike : IsSameFor one other) → alike.here.traps ≡ []
      → alike.there.traps ≡ []) where
    abbrev IsKeyed : ℕ × List ℕ → Type 0
    IsKeyed = IsKeyedBy told it.name script it.asked it.of_script rows reused.inputs made means

    abbrev keyed : (x : ℕ × List ℕ) → IsKeyed x → Keyed
    keyed x by =
        keyed_here told it.name script it.asked it.of_script rows reused.inputs made means by.output
        by.among

    -- what is kept of a collection is right for each with its key
    right_for : (x : ℕ × List ℕ) → IsKeyed x → IsRead script.outputs x.0
        → IsHeld (value_kept script (found it) table x.0)
        → IsSoundEntry (record { key = x.1; value = bytes_kept script (found it) table x.0 })
    right_for x by reads_it held = λ other e.
        let alike = key_law (keyed x by) other (sym by.key_is ∙ sym e) in
        let here : made_at made x.0 ≡ Some alike.here =
        ap (made_at made) (sym by.reads) ∙ alike.made_here in
        let is : value_kept script (found it) table x.0 ≡ value_of_kept other alike.there =
        value_same script well (found it) found_reads made table are own same sizes x.0 reads_it
        alike.here here
        ∙ ap (λ n. saved_value (what_is_saved alike.here (rested_sizes script made n)))
        (sym by.reads)
        ∙ (λ i. saved_value (record {
          members = alike.same.bag i;
          sizes = map line_size (alike.sizes i);
        })) in
        record {
          collection = alike.there;
          made = alike.made_there;
          clean = clean_law (keyed x by) other alike
              (clean-table made (through none) x.0 alike.here here);
          held = subst IsHeld is held;
          bytes = ap canonical is;
        }

    abbrev entry_for : ℕ × List ℕ → CacheEntry
    entry_for x = record { key = x.1; value = bytes_kept script (found it) table x.0 }

    -- all that is kept is
    all_right : Each (λ (x : ℕ × List ℕ). IsHeld (value_kept script (found it) table x.0))
        (not_found it.asked it.looked)
        → Each IsSoundEntry (entries_kept script it.asked it.looked table)
    all_right held =
        Each-map IsSoundEntry entry_for (not_found it.asked it.looked)
        (Each-both (λ (x : ℕ × List ℕ). IsKeyed x × IsRead script.outputs x.0)
        (λ (x : ℕ × List ℕ). IsHeld (value_kept script (found it) table x.0))
        (λ (x : ℕ × List ℕ). IsSoundEntry (entry_for x))
        (λ x by own_held. right_for x by.0 by.1 own_held) (not_found it.asked it.looked)
        (not_found_all (λ (x : ℕ × List ℕ). IsKeyed x × IsRead script.outputs x.0) it.asked
        it.looked
        (Each-both IsKeyed (λ (x : ℕ × List ℕ). IsRead script.outputs x.0)
        (λ (x : ℕ × List ℕ). IsKeyed x × IsRead script.outputs x.0) (λ x one two. (one, two))
        it.asked
        (all_keyed told it.name script it.asked it.of_script rows reused.inputs made means)
        (each_first (IsRead script.outputs) it.asked reads)))
        held)

    left_sound : Each (λ (x : ℕ × List ℕ). IsHeld (value_kept script (found it) table x.0))
        (not_found it.asked it.looked)
        → HasKept (entries_kept script it.asked it.looked table) cache later
        → TellsSoundEntries later
    left_sound held kept =
        told_sound cache.faults later.faults (entries_kept script it.asked it.looked table) entries
        sound (all_right held) later.entries (subst (λ (o : Option (List CacheEntry)).
        WhereTold o later.entries
        (λ old new. KeptUnlessFailed cache.faults later.faults old
        (entries_kept script it.asked it.looked table) new)) tells
        kept.some)

-- ---- whatever is told

told_entries : (o : Option (List CacheEntry)) → IsSomeAnd o AreSound
    → (entries : List CacheEntry) × (o ≡ Some entries) × AreSound entries
told_entries None sound = absurd sound
told_entries (Some entries) sound = (entries, refl, sound)

pub meant_for : Laws → MeantLaw
meant_for laws words None cache later it rows table some sound reused =
    absurd (true≢false (sym some))
meant_for laws words (Some files) cache later it rows table some sound reused =
    let own = told_entries cache.entries sound in
    as_meant laws words files cache later own.0 own.1 own.2 it rows table reused

pub sound_for : Laws → ((one other : Keyed) → key one ≡ key other → IsSameFor one other)
    → ((one other : Keyed) (alike : IsSameFor one other) → alike.here.traps ≡ []
    → alike.there.traps ≡ [])
    → SoundLaw
sound_for laws key_law clean_law words None cache later it rows table some sound reused none held
    kept =
    absurd (true≢false (sym some))
sound_for laws key_law clean_law words (Some files) cache later it rows table some sound reused none
    held kept =
    let own = told_entries cache.entries sound in
    left_sound laws words files cache later own.0 own.1 own.2 it rows table reused none key_law
    clean_law held kept
