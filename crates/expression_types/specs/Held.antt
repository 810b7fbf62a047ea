-- What is in memory: types under numbers, and what is in sight.
use Rattle.std.specs.Prelude.{ℕ, ◌<◌, List, map, reverse}
use Rattle.std.specs.List.{All}
use Rattle.flume_types.specs.declared.types.Ty.{Ty}
use Rattle.written_types.specs.Named.{Named}
use Rattle.written_types.specs.Known.{Known}
use Rattle.written_types.specs.inner.Held.{type_of, AreHeld}
use Rattle.expression_types.specs.Sight.{Sight}
use Rattle.expression_types.specs.declared.parts.Sides.{Sides}

-- the types under numbers, and what is in sight
pub record InSight : Type 0 where
  pub types : List Ty
  pub sight : Sight

abbrev pub in_sight : Known → Named ℕ → InSight
in_sight known entries = record {
  types = known.types;
  sight = record { known = known.names; names = map (type_of known.types) (reverse entries) };
}

-- what names stand for are numbers of types
abbrev pub AreInSight : List Ty → Named ℕ → Type 0
AreInSight types entries = AreHeld types (reverse entries)

-- these are numbers below n
abbrev pub AreTypes : ℕ → List ℕ → Type 0
AreTypes n ids = All (λ id. id < n) ids

abbrev pub AreSides : ℕ → Sides → Type 0
AreSides n sides = (sides.left < n) × (sides.right < n)
