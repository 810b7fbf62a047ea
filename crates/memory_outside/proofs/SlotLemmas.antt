-- Writes to a slot, as writes to the list of files.
use Rattle.std.proofs.Common.{◌≡◌, ℕ, ◌+◌, ◌<◌, List, [], refl, ap, sym, ◌∙◌, length, get_or, set, sum_by, Vec, Global, arith}
use Rattle.std.specs.Option.{option_map, option_map_or}
use Rattle.std.proofs.lemmas.Option.{slice_get-map, slice_get_read}
use Rattle.std.proofs.lemmas.List.{map-set, length-map}
use Rattle.memory_outside.specs.declared.slots.Slot.{Slot}
use Rattle.outside.specs.Files.{file_size}
use Rattle.memory_outside.specs.Slots.{file_name_at, bytes_at, slot_files, slot_file, slot_size}
use Rattle.memory_outside.proofs.RoomLemmas.{sizes, sum_set}

module _ (slots : List Slot) (k : ℕ) (x : Slot) (below : k < length slots)
    (is : x ≡ get_or slots k x) where
  slot_name : file_name_at (slot_files slots) k ≡ x.name.items
  slot_name = ap (λ o. option_map_or (λ file. file.name) o [])
      (slice_get-map slot_file slots k ∙ ap (option_map slot_file)
      (slice_get_read slots (length slots) k x refl below is))

  pub slot_bytes : bytes_at (slot_files slots) k ≡ x.bytes.items
  slot_bytes = ap (λ o. option_map_or (λ file. file.bytes) o [])
      (slice_get-map slot_file slots k ∙ ap (option_map slot_file)
      (slice_get_read slots (length slots) k x refl below is))

  pub slot_written : (v : Vec ℕ Global) (bytes : List ℕ) → v.items ≡ bytes
      → slot_files (set slots k (record { name = x.name; bytes = v }))
      ≡ set (slot_files slots) k (record {
        name = file_name_at (slot_files slots) k;
        bytes = bytes;
      })
  slot_written v bytes e =
      map-set slot_file slots k (record { name = x.name; bytes = v })
      ∙ ap (λ file. set (slot_files slots) k file)
      (ap (λ b. record { name = x.name.items; bytes = b }) e
      ∙ ap (λ n. record { name = n; bytes = bytes }) (sym slot_name))

  pub total_emptied : (v : Vec ℕ Global) → v.items ≡ []
      → sum_by slot_size (set slots k (record { name = x.name; bytes = v }))
      + length (bytes_at (slot_files slots) k) ≡ sum_by slot_size slots
  total_emptied v e =
      let new = sizes (set slots k (record { name = x.name; bytes = v })) in
      let old = sizes slots in
      let few : k < length (slot_files slots)
      = omega (arith, below, length-map slots slot_file) in
      let file = sum_set (slot_files slots) k [] few in
      let same = ap (sum_by file_size) (slot_written v [] e) in
      omega (arith, new, old, file, same)
