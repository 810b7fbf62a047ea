-- What a body's statements find: types under numbers, what is in sight, and the outputs' types.
use Rattle.std.specs.Prelude.{◌≡◌, ℕ, ◌-◌, List, length, map, drop}
use Rattle.flume_types.specs.declared.types.Ty.{Ty}
use Rattle.expression_check.specs.of_type_table.Table.{type_at}
use Rattle.expression_check.specs.of_expression_types.Sight.{Newest, Sight}
use Rattle.expression_check.specs.of_expression_types.Held.{InSight}

pub record InBody : Type 0 where
  pub types : List Ty
  pub sight : Sight
  pub gives : List Ty

abbrev pub in_body : InSight → List ℕ → InBody
in_body held gives =
    record { types = held.types; sight = held.sight; gives = map (type_at held.types) gives }

-- the oldest of the names are those from before
abbrev pub IsBehind : Newest Ty → Newest Ty → Type 0
IsBehind before names = drop (length names - length before) names ≡ before
