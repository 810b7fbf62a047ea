-- The files of inputs, as they are loaded.
use Rattle.std.specs.Prelude.{◌≡◌, List, Option}
use Rattle.std.specs.List.{AllZip}
use Rattle.script_loading.specs.of_direct_meaning.Inputs.{Wanted}
use Rattle.outside.specs.declared.file.File.{File}
use Rattle.script_loading.specs.Limits.{input_limit}
use Rattle.script_loading.specs.Loads.{Loads}

-- the file of an input
pub record IsFileOf (told : Option (List File)) (wanted : Wanted) (file : File) : Type 0 where
  pub name : file.name ≡ wanted.file
  pub loads : Loads told wanted.file input_limit file.bytes

-- these are the files of inputs, in order
abbrev pub AreFilesOf : Option (List File) → List Wanted → List File → Type 0
AreFilesOf told inputs files = AllZip (IsFileOf told) inputs files
