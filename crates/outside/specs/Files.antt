-- Told files: a list that is searched by name.
use Rattle.std.specs.Prelude.{ℕ, ◌+◌, List, [], ◌∷◌, ◌++◌, Option, Some, None, if◌then◌else◌, length, unwrap_or}
use Rattle.std.specs.Str.{bytes_eq}
use Rattle.outside.specs.declared.file.File.{File}

-- the bytes of a file, its name included
abbrev pub file_size : File → ℕ
file_size file = length file.name + length file.bytes

-- the bytes of the first file of this name
abbrev pub bytes_of : List File → List ℕ → Option (List ℕ)
bytes_of [] name = None
bytes_of (file ∷ files) name =
    if bytes_eq file.name name then Some file.bytes else bytes_of files name

-- the files with one of this name and these bytes, in place of the one of that name or behind the
-- others
abbrev pub with_file : List File → List ℕ → List ℕ → List File
with_file [] name bytes = record { name = name; bytes = bytes } ∷ []
with_file (file ∷ files) name bytes =
    if bytes_eq file.name name then record { name = name; bytes = bytes } ∷ files
    else file ∷ with_file files name bytes

-- the files with these, one after the other: each in place of the one of its name or behind the
-- others
abbrev pub with_files : List File → List File → List File
with_files files [] = files
with_files files (file ∷ others) = with_files (with_file files file.name file.bytes) others

-- the files with a piece added to the one of this name
abbrev pub with_piece : List File → List ℕ → List ℕ → List File
with_piece files name piece = with_file files name (unwrap_or (bytes_of files name) [] ++ piece)
