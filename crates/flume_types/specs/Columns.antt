-- The columns in which values of a flat type are written.
use Rattle.std.specs.Prelude.{ℕ, List, [], ◌∷◌, ◌++◌, Option, Some, None, option_map, codes}
use Rattle.flume_types.specs.declared.types.Ty.{Ty, Ty-F, out-Ty}
use Rattle.flume_types.specs.declared.types.Field.{Field}
use Rattle.flume_types.specs.declared.column.Column.{Column}
use Rattle.flume_types.specs.declared.column.ColumnKind.{ColumnKind}
use Rattle.flume_types.specs.declared.column.ColumnKind.TheVariants as kind

-- what the cells of an int, a bool or a text are; no other type has cells
abbrev pub cell_kind : {X : Type 0} → Ty-F X → Option ColumnKind
cell_kind Ty-F.Int = Some kind.Int
cell_kind Ty-F.Bool = Some kind.Bool
cell_kind Ty-F.Text = Some kind.Text
cell_kind _ = None

-- the one column of a type that has cells, under this name
abbrev pub cell_column : {X : Type 0} → List ℕ → Ty-F X → Option (List Column)
cell_column name t = option_map (λ kind. record { name = name; kind = kind } ∷ []) (cell_kind t)

-- columns and then more of them, where there are both
abbrev pub columns_and : Option (List Column) → Option (List Column) → Option (List Column)
columns_and (Some columns) (Some more) = Some (columns ++ more)
columns_and (Some columns) None = None
columns_and None more = None

-- the columns of all fields in order, where each field has some
abbrev pub all_columns : {X : Type 0} → (Field X → Option (List Column)) → List (Field X)
    → Option (List Column)
all_columns columns [] = Some []
all_columns columns (field ∷ fields) = columns_and (columns field) (all_columns columns fields)

-- the columns of a record of cells: a prefix and then the name of the field
abbrev pub cells_under : List ℕ → List (Field Ty) → Option (List Column)
cells_under prefix fields =
    all_columns (λ field. cell_column (prefix ++ field.name) (out-Ty field.ty)) fields

-- the columns of a field f: `f` where it has cells, `f.g` for each field g of a record of cells
abbrev pub field_columns : List ℕ → Ty-F Ty → Option (List Column)
field_columns name (Ty-F.Rec fields) = cells_under (name ++ codes ".") fields
field_columns name t = cell_column name t

-- the columns of a record of such fields
abbrev pub record_columns : List (Field Ty) → Option (List Column)
record_columns fields = all_columns (λ field. field_columns field.name (out-Ty field.ty)) fields

-- the columns of such a record, or the column `value` of a type that has cells
abbrev pub flat_columns : Ty-F Ty → Option (List Column)
flat_columns (Ty-F.Rec fields) = record_columns fields
flat_columns t = cell_column (codes "value") t

-- the columns of a flat type; no other type has any
abbrev pub columns_of : Ty → Option (List Column)
columns_of t = flat_columns (out-Ty t)

-- the columns of a record of cells, as inputs are; no other type has any
abbrev pub columns_at : Ty-F Ty → Option (List Column)
columns_at (Ty-F.Rec fields) = cells_under [] fields
columns_at _ = None

abbrev pub input_columns_of : Ty → Option (List Column)
input_columns_of t = columns_at (out-Ty t)
