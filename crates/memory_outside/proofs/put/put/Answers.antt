use Rattle.std.proofs.Common.{◌≡◌, ◌+◌, ◌≤◌, ◌<◌, ◌↔◌, Bool, true, false, Some, None, IsTrue, if◌then◌else◌, length, vec_len, sym, ◌∙◌, ap, subst, arith, List, ℕ, map}
use Rattle.std.proofs.lemmas.List.{length-map}
use Rattle.outside.specs.declared.file.File.{File}
use Rattle.memory_outside.specs.declared.slots.Slot.{Slot}
use Rattle.outside.specs.Files.{with_file}
use Rattle.memory_outside.specs.Slots.{bytes_at, slot_file, slot_files, place_of_file}
use Rattle.memory_outside.proofs.Places.{within}
use Rattle.memory_outside.proofs.RoomLemmas.{sizes}
use Rattle.cache_store.specs.Entries.{with_cache_entry}
use Rattle.memory_outside.specs.inner.Entries.{as_entry, entries_of}
use Rattle.memory_outside.proofs.Fitting.{fits_pushed, fits_replaced, pushed, replaced}
use Rattle.memory_outside.proofs.SlotEntries.{FilesFit, entries_fit, entries_with, slot_entries}
use Rattle.memory_outside.proofs.put.put.Goals as goal

-- where the files are with one more or as they were, so are the entries
as_put : (old new : List Slot) (key value : List ℕ) (files : List File) (fits : Bool)
    → files ≡ with_file (slot_files old) key value
    → slot_files new ≡ (if fits then files else slot_files old)
    → entries_of new
    ≡ (if fits then with_cache_entry (entries_of old) key value else entries_of old)
as_put old new key value files true is put = entries_with old new key value (put ∙ is)
as_put old new key value files false is put =
    slot_entries new ∙ ap (map as_entry) put ∙ sym (slot_entries old)

pub replace-requires-clause-within : goal.replace-requires-clause-within
replace-requires-clause-within c =
    let p : place_of_file (slot_files c.args.slots.now.items) c.args.key.now ≡ Some c.in-Some.k
    = sym (rw c.deref.ensures.value at c.in-Some.ensures) in
    let below = within c.args.slots.now.items c.args.key.now c.in-Some.k p in
    omega (arith, c.args.slots.now.ok.0, below)

pub returns-in-Some-clause-entries : goal.returns-in-Some-clause-entries
returns-in-Some-clause-entries c =
    let slots = c.args.slots.now.items in
    let p : place_of_file (slot_files slots) c.args.key.now ≡ Some c.in-Some.k
    = sym (rw c.deref.ensures.value at c.in-Some.ensures) in
    as_put slots c.replace.new.slots.items c.args.key.now c.args.value.now _ c.replace.result
    (replaced (slot_files slots) c.args.key.now c.args.value.now c.in-Some.k p)
    c.replace.ensures.files

pub returns-in-Some-clause-fits : goal.returns-in-Some-clause-fits
returns-in-Some-clause-fits c =
    let slots = c.args.slots.now.items in
    let files = slot_files slots in
    let count = vec_len c.args.slots.now + vec_len c.args.spare.now in
    let p : place_of_file files c.args.key.now ≡ Some c.in-Some.k
    = sym (rw c.deref.ensures.value at c.in-Some.ensures) in
    let few : length files ≤ vec_len c.args.slots.now + vec_len c.args.spare.now
    = omega (arith, c.args.slots.now.ok.0, length-map slots slot_file) in
    entries_fit slots c.args.key.now c.args.value.now count c.args.room (IsTrue c.replace.result)
    (fits_replaced files c.args.key.now c.args.value.now c.in-Some.k count c.args.room
    (IsTrue c.replace.result) p few
    (subst (λ n. IsTrue c.replace.result ↔ (n + length c.args.value.now
    ≤ c.args.room + length (bytes_at files c.in-Some.k))) (sym (sizes slots))
    c.replace.ensures.fits))

pub returns-in-None-clause-entries : goal.returns-in-None-clause-entries
returns-in-None-clause-entries c =
    let slots = c.args.slots.now.items in
    let p : place_of_file (slot_files slots) c.args.key.now ≡ None
    = sym (rw c.deref.ensures.value at c.in-None.ensures) in
    as_put slots c.add.new.slots.items c.args.key.now c.args.value.now _ c.add.result
    (pushed (slot_files slots) c.args.key.now c.args.value.now p) c.add.ensures.files

pub returns-in-None-clause-fits : goal.returns-in-None-clause-fits
returns-in-None-clause-fits c =
    let slots = c.args.slots.now.items in
    let files = slot_files slots in
    let spare = vec_len c.args.spare.now in
    let p : place_of_file files c.args.key.now ≡ None
    = sym (rw c.deref.ensures.value at c.in-None.ensures) in
    let many : length files ≡ vec_len c.args.slots.now
    = omega (arith, c.args.slots.now.ok.0, length-map slots slot_file) in
    entries_fit slots c.args.key.now c.args.value.now (vec_len c.args.slots.now + spare)
    c.args.room (IsTrue c.add.result)
    (subst (λ n. IsTrue c.add.result ↔ FilesFit (n + spare) c.args.room
    (with_file files c.args.key.now c.args.value.now)) many
    (fits_pushed files c.args.key.now c.args.value.now spare c.args.room (IsTrue c.add.result) p
    (subst (λ n. IsTrue c.add.result ↔ ((0 < spare)
    × (n + length c.args.key.now + length c.args.value.now ≤ c.args.room))) (sym (sizes slots))
    c.add.ensures.fits)))
