-- A table of types: each is one level whose parts are numbers of types in the table.
use Rattle.std.specs.Prelude.{◌≡◌, ℕ, ◌-◌, ◌^◌, ◌<◌, ◌≤◌, min, List, [], ◌∷◌, ◌++◌, length, map, slice_index_or}
use Rattle.std.specs.List.{All}
use Rattle.flume_types.specs.declared.types.Ty.{Ty, Ty-F}
use Rattle.flume_types.specs.declared.types.Ty.TheVariants as ty
use Rattle.flume_types.specs.declared.types.Field.{Field}
use Rattle.flume_types.specs.Depth.{depth_of}
use Rattle.type_table.specs.declared.shape.Shape.{Shape}
use Rattle.type_table.specs.declared.shape.Shape.TheVariants as shape
use Rattle.type_table.specs.declared.shape.Part.{Part}

-- the type under a number
abbrev pub type_at : List Ty → ℕ → Ty
type_at types id = slice_index_or types id ty.Int

abbrev pub field_at : List Ty → Part → Field Ty
field_at types part = record { name = part.name; ty = type_at types part.ty }

-- one level of the type that a shape stands for
abbrev pub shape_layer : List Ty → Shape → Ty-F Ty
shape_layer types shape.Int = Ty-F.Int
shape_layer types shape.Bool = Ty-F.Bool
shape_layer types shape.Text = Ty-F.Text
shape_layer types (shape.List part) = Ty-F.List (type_at types part)
shape_layer types (shape.Rec parts) = Ty-F.Rec (map (field_at types) parts)
shape_layer types (shape.Either left right) = Ty-F.Either (type_at types left) (type_at types right)

-- the type that a shape stands for
abbrev pub tree_of : List Ty → Shape → Ty
tree_of types shape.Int = ty.Int
tree_of types shape.Bool = ty.Bool
tree_of types shape.Text = ty.Text
tree_of types (shape.List part) = ty.List (type_at types part)
tree_of types (shape.Rec parts) = ty.Rec (map (field_at types) parts)
tree_of types (shape.Either left right) = ty.Either (type_at types left) (type_at types right)

-- the types of fields are below a number
abbrev pub AreWithin : ℕ → List Part → Type 0
AreWithin n parts = All (λ part. part.ty < n) parts

-- the parts of a shape are below a number
abbrev pub IsWithin : ℕ → Shape → Type 0
IsWithin n shape.Int = Unit {0}
IsWithin n shape.Bool = Unit {0}
IsWithin n shape.Text = Unit {0}
IsWithin n (shape.List part) = part < n
IsWithin n (shape.Rec parts) = AreWithin n parts
IsWithin n (shape.Either left right) = (left < n) × (right < n)

-- each number keeps its type
pub record Extends (old new : List Ty) : Type 0 where
  pub longer : length old ≤ length new
  pub same : (id : ℕ) → id < length old → type_at new id ≡ type_at old id

-- the types of entries that follow these types
abbrev pub types_from : List Ty → List (Shape × ℕ) → List Ty
types_from types [] = types
types_from types (entry ∷ entries) = types_from (types ++ tree_of types entry.0 ∷ []) entries

-- the types of a table's entries, which are shapes with their depths
abbrev pub kept_types : List (Shape × ℕ) → List Ty
kept_types = types_from []

abbrev pub entry_at : List (Shape × ℕ) → ℕ → Shape × ℕ
entry_at entries id = slice_index_or entries id (shape.Int, 0)

-- no entry has this shape
abbrev pub LacksShape : List (Shape × ℕ) → Shape → Type 0
LacksShape entries shape =
    (id : ℕ) → id < length entries → (entry_at entries id).0 ≡ shape → ⊥

-- the depth as it is kept, at most 2^32 - 1
abbrev pub depth_kept : ℕ → ℕ
depth_kept n = min n (2 ^ 32 - 1)

-- what holds of a table
pub record IsTable (entries : List (Shape × ℕ)) : Type 0 where
  pub as_many : length (kept_types entries) ≡ length entries
  pub levels : (id : ℕ) → id < length entries
      → type_at (kept_types entries) id ≡ tree_of (kept_types entries) (entry_at entries id).0
  pub within : (id : ℕ) → id < length entries → IsWithin id (entry_at entries id).0
  pub apart : (id other : ℕ) → id < length entries → other < length entries
      → type_at (kept_types entries) id ≡ type_at (kept_types entries) other → id ≡ other
  pub depths : (id : ℕ) → id < length entries
      → (entry_at entries id).1 ≡ depth_kept (depth_of (type_at (kept_types entries) id))
