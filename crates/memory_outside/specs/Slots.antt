-- Slots: files in room that was taken for them.
use Rattle.std.specs.Prelude.{◌≡◌, ℕ, List, [], ◌∷◌, Option, Some, None, if◌then◌else◌, map, slice_get, ◌+◌, ◌≤◌, drop, length, vec_capacity}
use Rattle.std.specs.Option.{option_map, option_map_or}
use Rattle.std.specs.Str.{bytes_eq}
use Rattle.outside.specs.declared.file.File.{File}
use Rattle.memory_outside.specs.declared.slots.Slot.{Slot}

-- the file in a slot
abbrev pub slot_file : Slot → File
slot_file slot = record { name = slot.name.items; bytes = slot.bytes.items }

-- the files in slots
abbrev pub slot_files : List Slot → List File
slot_files slots = map slot_file slots

-- the place of the first file of this name
abbrev pub place_of_file : List File → List ℕ → Option ℕ
place_of_file [] name = None
place_of_file (file ∷ files) name =
    if bytes_eq file.name name then Some 0 else option_map (λ k. k + 1) (place_of_file files name)

-- the name of the k-th file, or none
abbrev pub file_name_at : List File → ℕ → List ℕ
file_name_at files k = option_map_or (λ file. file.name) (slice_get files k) []

-- the bytes of the k-th file, or none
abbrev pub bytes_at : List File → ℕ → List ℕ
bytes_at files k = option_map_or (λ file. file.bytes) (slice_get files k) []

-- what is left of the begun file, from a byte on
abbrev pub rest_of : List File → Option ℕ → ℕ → Option (List ℕ)
rest_of files begun at = option_map (λ k. drop at (bytes_at files k)) begun

-- no file before the k-th has its name
abbrev pub IsPlace : List File → ℕ → Type 0
IsPlace files k = place_of_file files (file_name_at files k) ≡ Some k

-- room for that many bytes in the name and in the bytes of a slot
abbrev pub HasSlotRoom : ℕ → Slot → Type 0
HasSlotRoom room slot = (room ≤ vec_capacity slot.name) × (room ≤ vec_capacity slot.bytes)

-- the bytes in a slot, its name included
abbrev pub slot_size : Slot → ℕ
slot_size slot = length slot.name.items + length slot.bytes.items
