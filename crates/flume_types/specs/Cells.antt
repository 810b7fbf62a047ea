-- The cells in which a value of a flat type is written.
use Rattle.std.specs.Prelude.{Bool, true, false, List, [], ◌∷◌}
use Rattle.std.specs.List.{flat_map}
use Rattle.std.specs.Cmp.Lexicographic.{pointwise}
use Rattle.flume_value.specs.declared.value.Value.{Value, Value-F, out-Value}
use Rattle.flume_types.specs.declared.column.Column.{Column}
use Rattle.flume_types.specs.declared.column.ColumnKind.{ColumnKind}
use Rattle.flume_types.specs.declared.column.ColumnKind.TheVariants as kind

-- the cells of a field: those of a record, or the value itself
abbrev pub field_cells : Value → Value-F Value → List Value
field_cells v (Value-F.Rec cells) = cells
field_cells v x = v ∷ []

-- the cells of a record's fields in order, or the value itself
abbrev pub row_cells : Value → Value-F Value → List Value
row_cells v (Value-F.Rec fields) = flat_map (λ field. field_cells field (out-Value field)) fields
row_cells v x = v ∷ []

-- the cells of a value
abbrev pub cells_of : Value → List Value
cells_of v = row_cells v (out-Value v)

-- whether a value is a cell of this kind
abbrev pub is_cell : {X : Type 0} → ColumnKind → Value-F X → Bool
is_cell kind.Int (Value-F.Int n) = true
is_cell kind.Bool (Value-F.Bool b) = true
is_cell kind.Text (Value-F.Text s) = true
is_cell _ _ = false

-- as many cells as columns, each of its column's kind
abbrev pub are_filled : List Column → List Value → Bool
are_filled = pointwise (λ column cell. is_cell column.kind (out-Value cell))
