-- What is written to files in slots, and found there, as entries.
use Rattle.std.proofs.Common.{◌≡◌, ◌≤◌, ◌↔◌, ℕ, suc, zero, ◌+◌, ◌<◌, List, [], ◌∷◌, ◌++◌, true, false, cond, Some, refl, ap, sym, ◌∙◌, subst, map, length, set, sum_by, arith}
use Rattle.std.specs.Str.{bytes_eq}
use Rattle.std.proofs.lemmas.List.{length-map}
use Rattle.std.proofs.lemmas.List.Sums.{sum_by-cons}
use Rattle.outside.specs.declared.file.File.{File}
use Rattle.memory_outside.specs.declared.slots.Slot.{Slot}
use Rattle.outside.specs.Files.{bytes_of, file_size, with_file}
use Rattle.memory_outside.specs.Slots.{bytes_at, slot_file, slot_files, file_name_at}
use Rattle.cache_store.specs.declared.entry.CacheEntry.{CacheEntry}
use Rattle.cache_store.specs.Entries.{entry_size, found_in, with_cache_entry}
use Rattle.memory_outside.specs.Caches.{FitsIn}
use Rattle.memory_outside.specs.inner.Entries.{as_entry, entries_of}

-- ---- files as entries

pub slot_entries : (slots : List Slot) → entries_of slots ≡ map as_entry (slot_files slots)
slot_entries [] = refl
slot_entries (slot ∷ slots) = ap (λ es. as_entry (slot_file slot) ∷ es) (slot_entries slots)

pub found_as : (slots : List Slot) (key : List ℕ)
    → bytes_of (slot_files slots) key ≡ found_in (entries_of slots) key
found_as [] key = refl
found_as (slot ∷ slots) key =
    ap (λ o. cond (bytes_eq slot.name.items key) (Some slot.bytes.items) o) (found_as slots key)

with_as : (files : List File) (key value : List ℕ)
    → map as_entry (with_file files key value) ≡ with_cache_entry (map as_entry files) key value
with_as [] key value = refl
with_as (file ∷ files) key value =
    let new : File = record { name = key; bytes = value } in
    let entry : CacheEntry = record { key = key; value = value } in
    elim (bytes_eq file.name key) as
    (λ b. map as_entry (cond b (new ∷ files) (file ∷ with_file files key value))
    ≡ cond b (entry ∷ map as_entry files)
    (as_entry file ∷ with_cache_entry (map as_entry files) key value)) [
      | true ↦ refl
      | false ↦ ap (λ es. as_entry file ∷ es) (with_as files key value)
    ]

-- where the files are with one of this name and these bytes, the entries are with that entry
pub entries_with : (old new : List Slot) (key value : List ℕ)
    → slot_files new ≡ with_file (slot_files old) key value
    → entries_of new ≡ with_cache_entry (entries_of old) key value
entries_with old new key value is =
    slot_entries new ∙ ap (map as_entry) is ∙ with_as (slot_files old) key value
    ∙ ap (λ es. with_cache_entry es key value) (sym (slot_entries old))

sizes_as : (files : List File)
    → sum_by entry_size (map as_entry files) ≡ sum_by file_size files
sizes_as [] = refl
sizes_as (file ∷ files) = sum_by-cons entry_size (as_entry file) (map as_entry files)
    ∙ (ap (λ n. file_size file + n) (sizes_as files) ∙ sym (sum_by-cons file_size file files))

-- entries that were made files, which stand in slots
module _ (slots : List Slot) (files : List File) (entries : List CacheEntry)
    (are : map as_entry files ≡ entries) where
  pub made_count : length files ≡ length entries
  made_count = sym (length-map files as_entry) ∙ ap length are

  pub made_entries : slot_files slots ≡ files → entries_of slots ≡ entries
  made_entries stand = slot_entries slots ∙ ap (map as_entry) stand ∙ are

-- the files are no more than that, and their bytes, names included
abbrev pub FilesFit : ℕ → ℕ → List File → Type 0
FilesFit count room files = (length files ≤ count) × (sum_by file_size files ≤ room)

fits_as : (files : List File) (count room : ℕ) (P : Type 0) → P ↔ FilesFit count room files
    → P ↔ FitsIn count room (map as_entry files)
fits_as files count room P h =
    let many = length-map files as_entry in
    let total = sizes_as files in (
      λ t. let few = (h.0 t).0 in let fit = (h.0 t).1 in
          (omega (arith, many, few), omega (arith, total, fit)),
      λ fits. let few = fits.0 in let fit = fits.1 in
          h.1 (omega (arith, many, few), omega (arith, total, fit)),
    )

pub entries_fit : (slots : List Slot) (key value : List ℕ) (count room : ℕ) (P : Type 0)
    → P ↔ FilesFit count room (with_file (slot_files slots) key value)
    → P ↔ FitsIn count room (with_cache_entry (entries_of slots) key value)
entries_fit slots key value count room P h =
    let same = with_as (slot_files slots) key value
    ∙ ap (λ es. with_cache_entry es key value) (sym (slot_entries slots)) in
    subst (λ (es : List CacheEntry). P ↔ FitsIn count room es) same
    (fits_as (with_file (slot_files slots) key value) count room P h)

-- ---- a file that is written whole

-- the files with a piece added to the k-th
abbrev pub piece_added : List File → ℕ → List ℕ → List File
piece_added files k piece =
    set files k (record { name = file_name_at files k; bytes = bytes_at files k ++ piece })

pub emptied_filled : (files : List File) (k : ℕ) (bytes : List ℕ) → k < length files
    → piece_added (set files k (record { name = file_name_at files k; bytes = [] })) k bytes
    ≡ set files k (record { name = file_name_at files k; bytes = bytes })
emptied_filled [] k bytes below = absurd (omega (arith, below))
emptied_filled (file ∷ files) zero bytes below = refl
emptied_filled (file ∷ files) (suc k) bytes below =
    ap (λ fs. file ∷ fs) (emptied_filled files k bytes (omega (arith, below)))

pub added_filled : (files : List File) (name bytes : List ℕ)
    → piece_added (files ++ record { name = name; bytes = [] } ∷ []) (length files) bytes
    ≡ files ++ record { name = name; bytes = bytes } ∷ []
added_filled [] name bytes = refl
added_filled (file ∷ files) name bytes = ap (λ fs. file ∷ fs) (added_filled files name bytes)
