-- Room in slots.
use Rattle.std.proofs.Common.{◌≡◌, ℕ, zero, suc, ◌+◌, ◌<◌, ◌≤◌, List, [], ◌∷◌, ◌++◌, refl, ap, sym, ◌∙◌, subst, sum_by, length, get_or, set, arith}
use Rattle.std.specs.List.{All}
use Rattle.std.proofs.lemmas.List.Elements.{All-get_or}
use Rattle.std.proofs.lemmas.List.Sums.{get_or-le-sum_by, sum_by-cons, sum_by-append}
use Rattle.outside.specs.declared.file.File.{File}
use Rattle.memory_outside.specs.declared.slots.Slot.{Slot}
use Rattle.outside.specs.Files.{file_size}
use Rattle.memory_outside.specs.Slots.{HasSlotRoom, bytes_at, slot_file, slot_files, file_name_at, slot_size}

module _ (slots : List Slot) (k : ℕ) (x : Slot) (below : k < length slots)
    (is : x ≡ get_or slots k x) where
  pub size_within : slot_size x ≤ sum_by slot_size slots
  size_within = subst (λ s. slot_size s ≤ sum_by slot_size slots) (sym is)
      (get_or-le-sum_by slot_size slots k x below)

  pub room_at : (room : ℕ) → All (HasSlotRoom room) slots → HasSlotRoom room x
  room_at room all =
      subst (HasSlotRoom room) (sym is) (All-get_or (HasSlotRoom room) slots k x below all)

-- the files have as many bytes as the slots
pub sizes : (slots : List Slot) → sum_by file_size (slot_files slots) ≡ sum_by slot_size slots
sizes [] = refl
sizes (x ∷ xs) = sum_by-cons file_size (slot_file x) (slot_files xs)
    ∙ (ap (λ n. slot_size x + n) (sizes xs) ∙ sym (sum_by-cons slot_size x xs))

-- a file whose bytes are others
pub sum_set : (files : List File) (k : ℕ) (bytes : List ℕ) → k < length files
    → sum_by file_size (set files k (record { name = file_name_at files k; bytes = bytes }))
    + length (bytes_at files k) ≡ sum_by file_size files + length bytes
sum_set [] k bytes below = absurd (omega (arith, below))
sum_set (file ∷ files) zero bytes below =
    let new : File = record { name = file.name; bytes = bytes } in
    let a = sum_by-cons file_size new files in
    let b = sum_by-cons file_size file files in omega (arith, a, b)
sum_set (file ∷ files) (suc k) bytes below =
    let new : File = record { name = file_name_at files k; bytes = bytes } in
    let a = sum_by-cons file_size file (set files k new) in
    let b = sum_by-cons file_size file files in
    let c = sum_set files k bytes (omega (arith, below)) in omega (arith, a, b, c)

-- one file more
pub sum_push : (files : List File) (file : File)
    → sum_by file_size (files ++ file ∷ []) ≡ sum_by file_size files + file_size file
sum_push files file =
    sum_by-append file_size files (file ∷ [])
    ∙ ap (λ n. sum_by file_size files + n) (sum_by-cons file_size file [])
    ∙ one (sum_by file_size files) (file_size file)
  where
    one : (m n : ℕ) → m + (n + 0) ≡ m + n
    one m n = omega arith
