-- What a load gives of a file, and the rows of inputs.
use Rattle.std.specs.Prelude.{◌≡◌, ◌<◌, ◌≤◌, ℕ, List, [], ◌∷◌, length, map, Option, Some, None, Ok, IfSome, IsSomeAnd, ⊤}
use Rattle.csv_rows.specs.Rows.{rows_of}
use Rattle.build_law.specs.of_direct_meaning.Inputs.{Wanted}
use Rattle.flume_value.specs.declared.value.Value.{Value}
use Rattle.outside.specs.Files.{bytes_of}
use Rattle.outside.specs.declared.file.File.{File}
use Rattle.script_loading.specs.Limits.{input_limit}

-- the file of that name has these bytes, where files are told, and they are within the limit
abbrev pub Loads : Option (List File) → List ℕ → ℕ → List ℕ → Type 0
Loads told name limit bytes =
    IfSome told (λ files. bytes_of files name ≡ Some bytes) × (length bytes ≤ limit)

-- the file of that name has more bytes than its limit, where files are told
abbrev pub IsAbove : Option (List File) → List ℕ → ℕ → Type 0
IsAbove told name limit =
    IfSome told (λ files. IsSomeAnd (bytes_of files name) (λ bytes. limit < length bytes))

-- the source has no file of that name, where files are told
abbrev pub IsMissing : Option (List File) → List ℕ → Type 0
IsMissing told name = IfSome told (λ files. bytes_of files name ≡ None)

-- the names of the files of inputs, in order
abbrev pub file_names : List Wanted → List (List ℕ)
file_names inputs = map (λ wanted. wanted.file) inputs

-- the file of an input has these rows
abbrev pub HasRows : Option (List File) → Wanted → List Value → Type 0
HasRows told wanted rows =
    (bytes : List ℕ) × Loads told wanted.file input_limit bytes
    × (rows_of bytes wanted.type ≡ Some (Ok rows))

-- the same of several inputs, in order
abbrev pub AllHaveRows : Option (List File) → List Wanted → List (List Value) → Type 0
AllHaveRows told [] [] = ⊤
AllHaveRows told [] (rows ∷ others) = ⊥
AllHaveRows told (wanted ∷ inputs) [] = ⊥
AllHaveRows told (wanted ∷ inputs) (rows ∷ others) =
    HasRows told wanted rows × AllHaveRows told inputs others
