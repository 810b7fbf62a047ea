-- What a text of CSV means as rows of a type: the values of its records, or the first fault.
use Rattle.std.specs.Prelude.{ℕ, ◌+◌, ◌==◌, Bool, true, false, List, [], ◌∷◌, length, Option, Some, None, Result, Ok, Err, if◌then◌else◌, codes, option_map}
use Rattle.std.specs.Str.{bytes_eq, is_utf8}
use Rattle.flume_value.specs.declared.value.Value.{Value}
use Rattle.flume_value.specs.declared.value.Value.TheVariants as value
use Rattle.flume_types.specs.Columns.{input_columns_of}
use Rattle.flume_types.specs.declared.column.Column.{Column}
use Rattle.flume_types.specs.declared.column.ColumnKind.{ColumnKind}
use Rattle.flume_types.specs.declared.column.ColumnKind.TheVariants as cell
use Rattle.flume_types.specs.declared.types.Ty.{Ty}
use Rattle.int_text.specs.Ints.{int_of_text}
use Rattle.csv_rows.specs.Records.{records_of}
use Rattle.csv_rows.specs.declared.fault.RowFault.{RowFault}
use Rattle.csv_rows.specs.declared.fault.RowFault.TheVariants as fault
use Rattle.csv_rows.specs.declared.fault.RowKind.{RowKind}
use Rattle.csv_rows.specs.declared.fault.RowKind.TheVariants as kind

-- a fault at a row and a column
abbrev pub bad : {T : Type 0} → ℕ → ℕ → RowKind → Result T RowFault
bad row column why = Err (fault.Bad row column why)

-- the bool that a field names
abbrev pub bool_in_field : List ℕ → Option Bool
bool_in_field field =
    if bytes_eq field (codes "true") then Some true
    else if bytes_eq field (codes "false") then Some false
    else None

-- the text that a field is
abbrev pub text_in : List ℕ → Option (List ℕ)
text_in field = if is_utf8 field then Some field else None

-- a value, or what is wrong
abbrev pub ValueOrFault : Type 0
ValueOrFault = Result Value RowFault

-- values, or what is wrong
abbrev pub ValuesOrFault : Type 0
ValuesOrFault = Result (List Value) RowFault

-- the value that a field has, if it has one
abbrev pub value_or : {T : Type 0} → ValueOrFault → (T → Value) → Option T → ValueOrFault
value_or fault made None = fault
value_or fault made (Some x) = Ok (made x)

-- the value of a field at a row and a column, or its fault
abbrev pub cell_at : ℕ → ℕ → ColumnKind → List ℕ → ValueOrFault
cell_at row column cell.Int field =
    value_or (bad row column kind.NotInt) (λ n. value.Int n) (int_of_text field)
cell_at row column cell.Bool field =
    value_or (bad row column kind.NotBool) (λ b. value.Bool b) (bool_in_field field)
cell_at row column cell.Text field =
    value_or (bad row column kind.Utf8) (λ t. value.Text t) (text_in field)

-- one value and then those after it; the first fault is the answer
abbrev pub and_more : Value → ValuesOrFault → ValuesOrFault
and_more x (Ok xs) = Ok (x ∷ xs)
and_more x (Err e) = Err e

abbrev pub first_then : ValueOrFault → ValuesOrFault → ValuesOrFault
first_then (Ok x) rest = and_more x rest
first_then (Err e) rest = Err e

-- the values of a row's fields, from a column on
abbrev pub cells_from : ℕ → ℕ → List Column → List (List ℕ) → ValuesOrFault
cells_from row at [] fields = Ok []
cells_from row at (column ∷ columns) [] = bad row 0 kind.Width
cells_from row at (column ∷ columns) (field ∷ fields) =
    first_then (cell_at row at column.kind field) (cells_from row (at + 1) columns fields)

-- the record that has these values
abbrev pub record_of : ValuesOrFault → ValueOrFault
record_of (Ok cells) = Ok (value.Rec cells)
record_of (Err e) = Err e

-- the value of a row: a field for each column
abbrev pub row_at : ℕ → List Column → List (List ℕ) → ValueOrFault
row_at row columns fields =
    if length fields == length columns then record_of (cells_from row 1 columns fields)
    else bad row 0 kind.Width

-- the values of records, from a row's number on
abbrev pub rows_from : ℕ → List Column → List (List (List ℕ)) → ValuesOrFault
rows_from row columns [] = Ok []
rows_from row columns (fields ∷ records) =
    first_then (row_at row columns fields) (rows_from (row + 1) columns records)

-- the first column whose name is another one, from a column on: 0 where names are missing
abbrev pub other_name : ℕ → List Column → List (List ℕ) → Option ℕ
other_name at [] names = None
other_name at (column ∷ columns) [] = Some 0
other_name at (column ∷ columns) (name ∷ names) =
    if bytes_eq column.name name then other_name (at + 1) columns names else Some at

-- the column at which a header is not that of the type: 0 where it has another number of names
abbrev pub header_fault : List Column → List (List ℕ) → Option ℕ
header_fault columns names =
    if length names == length columns then other_name 1 columns names else Some 0

abbrev pub under_header : List Column → Option ℕ → List (List (List ℕ)) → ValuesOrFault
under_header columns None records = rows_from 1 columns records
under_header columns (Some at) records = bad 0 at kind.Header

-- the rows of records, of which the first is the header
abbrev pub rows_under : List Column → List (List (List ℕ)) → ValuesOrFault
rows_under columns [] = bad 0 0 kind.Header
rows_under columns (names ∷ records) = under_header columns (header_fault columns names) records

-- the rows of a text of CSV as values of a type, or its first fault; a type that is no record of
-- int, bool and text has neither
abbrev pub rows_of : List ℕ → Ty → Option ValuesOrFault
rows_of bytes ty =
    option_map (λ columns. rows_under columns (records_of bytes)) (input_columns_of ty)
