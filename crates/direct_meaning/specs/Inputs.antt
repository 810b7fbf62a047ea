-- The inputs that a script's meaning is over.
use Rattle.std.specs.Prelude.{◌≡◌, ℕ, Bool, true, false, List, [], ◌∷◌, length, ⊤}
use Rattle.std.specs.List.{flat_map}
use Rattle.flume_value.specs.declared.value.Value.{Value}
use Rattle.flume_types.specs.declared.types.Ty.{Ty}
use Rattle.flume_types.specs.Typing.{AllHave}
use Rattle.script_program.specs.declared.made.Made.{Made}
use Rattle.script_program.specs.declared.made.Made.TheVariants as made
use Rattle.script_program.specs.Script.{Script}
use Rattle.script_program.specs.Needed.{needed_nodes}
use Rattle.script_program.specs.Sources.{in_order}

-- an input that a run reads: its file, and the type of its rows
pub record Wanted : Type 0 where
  pub file : List ℕ
  pub type : Ty

abbrev pub wanted_by : Made → Ty → List Wanted
wanted_by (made.Input file columns) type = record { file = file; type = type } ∷ []
wanted_by _ type = []

-- the inputs that a run reads, which are the needed ones, in order of the script
abbrev pub inputs_of : Script → List Wanted
inputs_of script = flat_map (λ it. wanted_by it.1.1.made it.1.1.type) (needed_nodes script)

-- as many lists of rows as inputs, each of its input's type
abbrev pub HaveRows : List Wanted → List (List Value) → Type 0
HaveRows [] [] = ⊤
HaveRows [] (rows ∷ inputs) = ⊥
HaveRows (wanted ∷ others) [] = ⊥
HaveRows (wanted ∷ others) (rows ∷ inputs) = AllHave wanted.type rows × HaveRows others inputs

-- ---- lists of all sources

-- a source: the type of its members, and whether it is an object, which has just one
pub record Sourced : Type 0 where
  pub type : Ty
  pub is_object : Bool

abbrev pub sourced_by : Made → Ty → List Sourced
sourced_by (made.Input file columns) type = record { type = type; is_object = false } ∷ []
sourced_by (made.Saved is_object call) type = record { type = type; is_object = is_object } ∷ []
sourced_by _ type = []

-- the needed sources, in order of the script
abbrev pub sourced : Script → List Sourced
sourced script = flat_map (λ it. sourced_by it.1.1.made it.1.1.type) (needed_nodes script)

-- members of the source's type, and just one of an object
pub record IsListOf (source : Sourced) (list : List Value) : Type 0 where
  pub typed : AllHave source.type list
  pub one : source.is_object ≡ true → length list ≡ 1

-- as many lists as sources, each a list of its source
abbrev pub AreLists : List Sourced → List (List Value) → Type 0
AreLists [] [] = ⊤
AreLists [] (list ∷ lists) = ⊥
AreLists (source ∷ sources) [] = ⊥
AreLists (source ∷ sources) (list ∷ lists) = IsListOf source list × AreLists sources lists

-- rows of each needed input, and behind them the members of each needed kept collection, of their
-- types
abbrev pub AreInputs : Script → List (List Value) → Type 0
AreInputs script inputs = AreLists (sourced script) (in_order script inputs)
