-- What is seen of the forms in memory.
use Rattle.std.specs.Prelude.{ℕ, List, [], Option, Some, None}
use Rattle.memory_outside.specs.Calls.{CallList, no_calls}
use Rattle.memory_outside.specs.declared.calls.Fail.{Fail}
use Rattle.outside.specs.declared.file.File.{File}

-- a source: its files, the names that it was asked for, while it tells them, what is left to read
-- of the begun file, how many bytes a read gives at most, its calls, and how many failed
pub record SourceInMemory : Type 0 where
  pub files : List File
  pub asked : Option (List (List ℕ))
  pub rest : Option (List ℕ)
  pub step : ℕ
  pub calls : CallList
  pub faults : ℕ

-- a source of these files that nobody has asked yet
abbrev pub source_of : List File → List Fail → ℕ → SourceInMemory
source_of files fails step = record {
  files = files;
  asked = Some [];
  rest = None;
  step = step;
  calls = no_calls fails;
  faults = 0;
}

-- a shelf: its files, the name of the begun one, how many were left begun, its room for files and
-- for bytes, its calls, and how many failed
pub record ShelfInMemory : Type 0 where
  pub files : List File
  pub begun : Option (List ℕ)
  pub left : ℕ
  pub max_files : ℕ
  pub max_bytes : ℕ
  pub calls : CallList
  pub faults : ℕ

-- a screen: its text, its room for bytes, the numbers of the calls that are to fail, how many calls
-- there were, and how many failed
pub record ScreenInMemory : Type 0 where
  pub text : List ℕ
  pub max_bytes : ℕ
  pub fails : List ℕ
  pub calls : ℕ
  pub faults : ℕ
