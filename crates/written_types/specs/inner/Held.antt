-- What is in memory: types under numbers, and names with numbers of types.
use Rattle.std.specs.Prelude.{ℕ, ◌<◌, List, length, map}
use Rattle.std.specs.List.{All}
use Rattle.flume_types.specs.declared.types.Ty.{Ty}
use Rattle.type_table.specs.Table.{type_at}
use Rattle.written_types.specs.Named.{Named}
use Rattle.written_types.specs.Known.{Known}

-- a name, and the type under the number with it
abbrev pub type_of : List Ty → List ℕ × ℕ → List ℕ × Ty
type_of types entry = (entry.0, type_at types entry.1)

abbrev pub known_of : List Ty → Named ℕ → Known
known_of types names = record { types = types; names = map (type_of types) names }

-- the numbers are those of types
abbrev pub AreHeld : List Ty → Named ℕ → Type 0
AreHeld types names = All (λ entry. entry.1 < length types) names
