-- The places of names, counted from the newest.
use Rattle.std.specs.Prelude.{ℕ, ◌+◌, List, [], ◌∷◌, Option, Some, None, if◌then◌else◌}
use Rattle.std.specs.Str.{bytes_eq}
use Rattle.flume_types.specs.declared.types.Ty.{Ty}
use Rattle.type_table.specs.Table.{type_at}
use Rattle.expression_types.specs.declared.scope.Found.{Found}
use Rattle.expression_types.specs.Sight.{Newest}

-- a place, behind so many newer ones
abbrev pub further : {A : Type 0} → ℕ → Option (ℕ × A) → Option (ℕ × A)
further newer None = None
further newer (Some (place, x)) = Some (place + newer, x)

-- the place of the newest of a name, and what it stands for
abbrev pub place_in : {A : Type 0} → List ℕ → Newest A → Option (ℕ × A)
place_in name [] = None
place_in name ((other, x) ∷ names) =
    if bytes_eq name other then Some (0, x) else further 1 (place_in name names)

-- the place and the type that were found
abbrev pub placed_type : List Ty → Found → ℕ × Ty
placed_type types at = (at.place, type_at types at.ty)

abbrev pub place_found : List Ty → Option Found → Option (ℕ × Ty)
place_found types None = None
place_found types (Some at) = Some (placed_type types at)
