-- Equality of types, as a test: the derived `==`. `same_law` says what it answers.
use Rattle.std.specs.Prelude.{Bool}
use Rattle.flume_types.specs.declared.types.Ty.{Ty}
use Rattle.flume_types.specs.contracts.types.TyPartialEq.TheImpl.{ghosts}

-- whether they are one type: record types have the same names and types in the same order
abbrev pub type_eq : Ty → Ty → Bool
type_eq = (ghosts).eq
