-- The text of a bag of values, as csv writes it.
use Rattle.std.specs.Prelude.{false, List, [], ◌++◌, ℕ, Option, if◌then◌else◌, codes, map, option_map}
use Rattle.std.specs.Fmt.{signed_decimal}
use Rattle.std.specs.List.{flat_map}
use Rattle.csv.specs.Writing.{default_writer, row_text, with_has_headers}
use Rattle.csv.specs.declared.writer.WriterBuilder.{WriterBuilder}
use Rattle.flume_types.specs.Cells.{cells_of}
use Rattle.flume_types.specs.Columns.{columns_of}
use Rattle.flume_types.specs.declared.column.Column.{Column}
use Rattle.flume_types.specs.declared.types.Ty.{Ty}
use Rattle.flume_value.specs.declared.value.Value.{Value, Value-F, out-Value}

-- what a cell shows; no other value is a cell
abbrev pub cell_shown : {X : Type 0} → Value-F X → List ℕ
cell_shown (Value-F.Int n) = signed_decimal n
cell_shown (Value-F.Bool b) = if b then codes "true" else codes "false"
cell_shown (Value-F.Text text) = text
cell_shown _ = []

abbrev pub cell_text : Value → List ℕ
cell_text cell = cell_shown (out-Value cell)

-- how rows are written: by csv's defaults, with no header row of its own
abbrev pub plain_writer : WriterBuilder
plain_writer = with_has_headers default_writer false

-- the row of a value
abbrev pub row_of : Value → List ℕ
row_of value = row_text plain_writer (map cell_text (cells_of value))

-- the header of columns, and then a row for each of these values
abbrev pub table_text : List Column → List Value → List ℕ
table_text columns values =
    row_text plain_writer (map (λ column. column.name) columns) ++ flat_map row_of values

-- the sorted text of a bag of values of a type, which is given as its ascending list; a type that
-- is not flat has none
abbrev pub csv_text_of : List Value → Ty → Option (List ℕ)
csv_text_of bag ty = option_map (λ columns. table_text columns bag) (columns_of ty)
