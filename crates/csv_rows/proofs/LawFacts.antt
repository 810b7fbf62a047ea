-- How many rows a file has.
use Rattle.std.proofs.Common.{◌≡◌, ◌+◌, ◌∷◌, ℕ, List, [], length, Option, Some, None, refl, arith}
use Rattle.std.specs.Prelude.{Ok, option_map}
use Rattle.flume_types.specs.Columns.{input_columns_of}
use Rattle.flume_types.specs.declared.column.Column.{Column}
use Rattle.flume_types.specs.declared.types.Ty.{Ty}
use Rattle.flume_value.specs.declared.value.Value.{Value}
use Rattle.csv_rows.proofs.TypeFacts.{first_ok}
use Rattle.csv_rows.specs.Records.{records_of}
use Rattle.csv_rows.specs.Rows.{header_fault, row_at, rows_from, rows_of, rows_under, under_header}
use Rattle.csv_rows.specs.inner.Readers.{Fields}

from_length : (columns : List Column) (row : ℕ) (records : List Fields) (rows : List Value)
    → rows_from row columns records ≡ Ok rows → length records ≡ length rows
from_length columns row [] rows e =
    let same : ◌≡◌ {A = List Value} [] rows = cc in rw (← same) refl
from_length columns row (fields ∷ records) rows e =
    let (v, vs, one, more, is)
    = first_ok (row_at row columns fields) (rows_from (row + 1) columns records) rows e in
    rw is (omega (arith, from_length columns (row + 1) records vs more))

header_length : (columns : List Column) (at : Option ℕ) (records : List Fields) (rows : List Value)
    → under_header columns at records ≡ Ok rows → length records ≡ length rows
header_length columns None records rows e = from_length columns 1 records rows e
header_length columns (Some at) records rows e = cc e

under_length : (columns : List Column) (records : List Fields) (rows : List Value)
    → rows_under columns records ≡ Ok rows → length records ≡ length rows + 1
under_length columns [] rows e = cc e
under_length columns (names ∷ records) rows e =
    let h = header_length columns (header_fault columns names) records rows e in omega (arith, h)

input_length : (o : Option (List Column)) (records : List Fields) (rows : List Value)
    → option_map (λ columns. rows_under columns records) o ≡ Some (Ok rows)
    → length records ≡ length rows + 1
input_length None records rows e = cc e
input_length (Some columns) records rows e =
    let is : rows_under columns records ≡ Ok rows = cc in under_length columns records rows is

pub rows_length : (bytes : List ℕ) (ty : Ty) (rows : List Value)
    → rows_of bytes ty ≡ Some (Ok rows) → length (records_of bytes) ≡ length rows + 1
rows_length bytes ty rows e = input_length (input_columns_of ty) (records_of bytes) rows e
