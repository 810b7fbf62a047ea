-- Whether a file fits, in place of another or behind the others.
use Rattle.std.proofs.Common.{◌≡◌, ℕ, ◌+◌, ◌<◌, ◌≤◌, ◌↔◌, List, [], ◌∷◌, ◌++◌, Some, None, refl, sym, ap, ◌∙◌, subst, sum_by, length, set, arith}
use Rattle.std.proofs.lemmas.List.{length-set, length-append}
use Rattle.outside.specs.declared.file.File.{File}
use Rattle.outside.specs.Files.{file_size, with_file}
use Rattle.memory_outside.specs.Slots.{file_name_at, bytes_at, place_of_file}
use Rattle.memory_outside.proofs.Places.{at_place, at_none}
use Rattle.memory_outside.proofs.RoomLemmas.{sum_set, sum_push}
use Rattle.memory_outside.proofs.SlotEntries.{FilesFit}

module _ (files : List File) (name bytes : List ℕ) where
  -- in place of the k-th
  pub replaced : (k : ℕ) → place_of_file files name ≡ Some k
      → set files k (record { name = file_name_at files k; bytes = bytes })
      ≡ with_file files name bytes
  replaced k p =
      let a = at_place files name k p in
      ap (λ n. set files k (record { name = n; bytes = bytes })) a.name_is ∙ sym (a.with_is bytes)

  pub fits_replaced : (k count room : ℕ) (P : Type 0) → place_of_file files name ≡ Some k
      → length files ≤ count
      → P ↔ (sum_by file_size files + length bytes ≤ room + length (bytes_at files k))
      → P ↔ FilesFit count room (with_file files name bytes)
  fits_replaced k count room P p few h =
      let a = at_place files name k p in
      let new : File = record { name = file_name_at files k; bytes = bytes } in
      let total = sum_set files k bytes a.within in
      let many : length (set files k new) ≡ length files = length-set files k new in
      subst (λ (fs : List File). P ↔ FilesFit count room fs) (replaced k p) (
        λ t. let q = h.0 t in (omega (arith, many, few), omega (arith, total, q)),
        λ fits. let q = fits.1 in h.1 (omega (arith, total, q)),
      )

  -- behind the others
  pub pushed : place_of_file files name ≡ None
      → files ++ record { name = name; bytes = bytes } ∷ [] ≡ with_file files name bytes
  pushed p = sym ((at_none files name p).with_is bytes)

  pub fits_pushed : (spare room : ℕ) (P : Type 0) → place_of_file files name ≡ None
      → P ↔ ((0 < spare) × (sum_by file_size files + length name + length bytes ≤ room))
      → P ↔ FilesFit (length files + spare) room (with_file files name bytes)
  fits_pushed spare room P p h =
      let new : File = record { name = name; bytes = bytes } in
      let total = sum_push files new in
      let many : length (files ++ new ∷ []) ≡ length files + 1
      = length-append files (new ∷ []) in
      subst (λ (fs : List File). P ↔ FilesFit (length files + spare) room fs) (pushed p) (
        λ t. let q = h.0 t in let r = q.0 in let s = q.1 in
            (omega (arith, many, r), omega (arith, total, s)),
        λ fits. let q = fits.0 in let r = fits.1 in
            h.1 (omega (arith, many, q), omega (arith, total, r)),
      )
