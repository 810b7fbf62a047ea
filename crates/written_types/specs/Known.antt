-- Types under numbers, and names for types.
use Rattle.std.specs.Prelude.{List}
use Rattle.flume_types.specs.declared.types.Ty.{Ty}
use Rattle.written_types.specs.Named.{Named}

-- the types under numbers, and the types that names stand for
pub record Known : Type 0 where
  pub types : List Ty
  pub names : Named Ty
