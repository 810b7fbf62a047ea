-- What is in sight of an expression: names of types, and names of values with their types.
use Rattle.std.specs.Prelude.{ℕ, List, ◌∷◌}
use Rattle.flume_types.specs.declared.types.Ty.{Ty}
use Rattle.written_types.specs.Named.{Named}

-- names with what they stand for, the newest first
abbrev pub Newest : Type 0 → Type 0
Newest A = List (List ℕ × A)

-- the types that names stand for, and the types of what names of values stand for
pub record Sight : Type 0 where
  pub known : Named Ty
  pub names : Newest Ty

-- one name of a value more
abbrev pub with_name : List ℕ → Ty → Sight → Sight
with_name name type s = record { known = s.known; names = (name, type) ∷ s.names }
