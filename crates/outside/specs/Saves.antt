-- What stands on a shelf after files were written to it.
use Rattle.std.specs.Prelude.{◌≡◌, ◌⊎◌, ◌≤◌, ◌<◌, ℕ, List, IfSome, length, slice_get, take}
use Rattle.std.specs.Option.{option_map}
use Rattle.outside.specs.Begun.{begun_after, left_after}
use Rattle.outside.specs.Cause.{Rose}
use Rattle.outside.specs.Files.{with_file, with_files}
use Rattle.outside.specs.Seen.{SeenShelf}
use Rattle.outside.specs.Told.{WhereTold}
use Rattle.outside.specs.declared.file.File.{File}
use Rattle.outside.specs.declared.saves.Output.{Output}

-- an output as the file that it is to be
abbrev pub output_file : Output → File
output_file output = record { name = output.name; bytes = output.text.items }

-- The shelf has got these files, each of them whole and ended, and has not failed.
pub record HasFiles (files : List File) (before after : SeenShelf) : Type 0 where
  pub told : after.files ≡ option_map (λ old. with_files old files) before.files
  pub begun : after.begun ≡ begun_after files before.begun
  pub left : after.left ≡ left_after files before.begun before.left
  pub faults : after.faults ≡ before.faults

-- The files are as they were, or with one of this name that has a front of the text.
abbrev pub IsCutShort : List ℕ → List ℕ → List File → List File → Type 0
IsCutShort name text old new =
    (new ≡ old) ⊎ ((n : ℕ) × (n ≤ length text) × (new ≡ with_file old name (take n text)))

-- The file at this place is cut short, those before it are whole, and all others are as they were.
abbrev pub IsCutAt : ℕ → List File → List File → List File → Type 0
IsCutAt place files old new = IfSome (slice_get files place) (λ file.
    IsCutShort file.name file.bytes (with_files old (take place files)) new)

-- The shelf failed at the file of this place; those before it are whole and ended.
pub record FailsAt (place : ℕ) (files : List File) (before after : SeenShelf) : Type 0 where
  pub within : place < length files
  pub told : WhereTold before.files after.files (IsCutAt place files)
  pub left : after.left ≡ left_after files before.begun before.left
  pub faults : Rose before.faults after.faults
