-- What is told of the bytes of a file.
use Rattle.std.specs.Prelude.{◌≡◌, ℕ, List, Some, None, Result, Ok, Err, IsUtf8}
use Rattle.serde_json.specs.Data.{Data}
use Rattle.serde_json.specs.Read.{read}
use Rattle.serde_json.specs.View.{view}
use Rattle.serde_json.specs.declared.value.Value.{Value}
use Rattle.plan_files.specs.Forms.{plan_file_of}
use Rattle.plan_files.specs.declared.file.PlanFile.{PlanFile}
use Rattle.plan_files.specs.declared.file.FileFault.{FileFault}
use Rattle.plan_files.specs.declared.file.FileFault.TheVariants.{NotJson, Shape, Memory}

-- the bytes are that value as JSON
abbrev pub HasValue : List ℕ → Data → Type 0
HasValue bytes d = IsUtf8 bytes × (read bytes ≡ Some d)

-- the bytes are no JSON
abbrev pub IsNoJson : List ℕ → Type 0
IsNoJson bytes = IsUtf8 bytes → read bytes ≡ None

-- the bytes are JSON that tells no file
abbrev pub HasNoShape : List ℕ → Type 0
HasNoShape bytes = (d : Data) × HasValue bytes d × (plan_file_of d ≡ None)

-- the bytes are JSON that tells the file
abbrev pub IsFile : List ℕ → PlanFile → Type 0
IsFile bytes file = (d : Data) × HasValue bytes d × (plan_file_of d ≡ Some file)

-- it is told so of the bytes: their file, or why they are none
abbrev pub IsReadAs : List ℕ → Result PlanFile FileFault → Type 0
IsReadAs bytes (Ok file) = IsFile bytes file
IsReadAs bytes (Err NotJson) = IsNoJson bytes
IsReadAs bytes (Err Shape) = HasNoShape bytes
IsReadAs bytes (Err Memory) = Unit {0}

-- it is told so of the bytes: their value, or that they are no JSON
abbrev pub Parses : List ℕ → Result Value FileFault → Type 0
Parses bytes (Ok value) = HasValue bytes (view value)
Parses bytes (Err NotJson) = IsNoJson bytes
Parses bytes (Err Shape) = ⊥
Parses bytes (Err Memory) = Unit {0}
