-- Rows that were read have their type.
use Rattle.std.proofs.Common.{◌≡◌, ◌+◌, ◌==◌, ◌∷◌, ◌∙◌, ℕ, true, List, [], length, Option, Some, None, refl, inl, inr, arith}
use Rattle.std.specs.Prelude.{Result, Ok, Err, IsTrue, option_map}
use Rattle.std.specs.List.{All}
use Rattle.std.proofs.lemmas.Bool.{cases_Bool, eqb-true}
use Rattle.std.proofs.lemmas.List.Elements.{All-cons, All-nil}
use Rattle.flume_value.specs.declared.value.Value.{Value, out-Value}
use Rattle.flume_value.specs.declared.value.Value.TheVariants as value
use Rattle.flume_types.specs.Cells.{are_filled, is_cell}
use Rattle.flume_types.specs.Columns.{input_columns_of}
use Rattle.flume_types.specs.Typing.{has_type}
use Rattle.flume_types.specs.declared.column.Column.{Column}
use Rattle.flume_types.specs.declared.column.ColumnKind.{ColumnKind}
use Rattle.flume_types.specs.declared.column.ColumnKind.TheVariants as cell
use Rattle.flume_types.specs.declared.types.Ty.{Ty}
use Rattle.flume_types.proofs.CellLemmas.{has_type-input}
use Rattle.int_text.specs.Ints.{int_of_text}
use Rattle.csv_rows.specs.Records.{records_of}
use Rattle.csv_rows.specs.Rows.{bad, bool_in_field, cell_at, cells_from, first_then, header_fault, record_of, row_at, rows_from, rows_of, rows_under, text_in, under_header, value_or}
use Rattle.csv_rows.specs.declared.fault.RowFault.{RowFault}
use Rattle.csv_rows.specs.declared.fault.RowKind.{RowKind}
use Rattle.csv_rows.specs.declared.fault.RowKind.TheVariants as kind

-- the parts of values that are all right
pub first_ok : (r : Result Value RowFault) (rest : Result (List Value) RowFault) (all : List Value)
    → first_then r rest ≡ Ok all
    → (x : Value) × (xs : List Value) × (r ≡ Ok x) × (rest ≡ Ok xs) × (all ≡ x ∷ xs)
first_ok (Ok x) (Ok xs) all e = (x, xs, refl, refl, cc)
first_ok (Ok x) (Err f) all e = cc e
first_ok (Err f) rest all e = cc e

made_ok : {T : Type 0} (row at : ℕ) (why : RowKind) (made : T → Value) (o : Option T) (x : Value)
    → value_or (bad row at why) made o ≡ Ok x → (t : T) × (x ≡ made t)
made_ok row at why made None x e = cc e
made_ok row at why made (Some t) x e = (t, cc)

record_ok : (r : Result (List Value) RowFault) (v : Value) → record_of r ≡ Ok v
    → (cells : List Value) × (r ≡ Ok cells) × (v ≡ value.Rec cells)
record_ok (Ok cells) v e = (cells, refl, cc)
record_ok (Err f) v e = cc e

-- a field's value is a cell of its column
cell_filled : (row at : ℕ) (k : ColumnKind) (field : List ℕ) (x : Value)
    → cell_at row at k field ≡ Ok x → is_cell k (out-Value x) ≡ true
cell_filled row at cell.Int field x e =
    let (n, is) = made_ok row at kind.NotInt (λ n. value.Int n) (int_of_text field) x e in
    rw (is, value.outs-Int n) refl
cell_filled row at cell.Bool field x e =
    let (b, is) = made_ok row at kind.NotBool (λ b. value.Bool b) (bool_in_field field) x e in
    rw (is, value.outs-Bool b) refl
cell_filled row at cell.Text field x e =
    let (t, is) = made_ok row at kind.Utf8 (λ t. value.Text t) (text_in field) x e in
    rw (is, value.outs-Text t) refl

-- the values of a row's fields fill its columns
cells_filled : (row at : ℕ) (columns : List Column) (fields : List (List ℕ)) (cells : List Value)
    → length fields ≡ length columns
    → cells_from row at columns fields ≡ Ok cells → are_filled columns cells ≡ true
cells_filled row at [] fields cells size e =
    let same : ◌≡◌ {A = List Value} [] cells = cc in rw (← same) refl
cells_filled row at (c ∷ columns) [] cells size e = absurd (omega arith)
cells_filled row at (c ∷ columns) (field ∷ fields) cells size e =
    let (x, xs, head, tail, is) =
    first_ok (cell_at row at c.kind field) (cells_from row (at + 1) columns fields) cells e in
    rw (is, cell_filled row at c.kind field x head)
    (cells_filled row (at + 1) columns fields xs (omega arith) tail)

row_typed : (ty : Ty) (columns : List Column) (row : ℕ) (fields : List (List ℕ)) (v : Value)
    → input_columns_of ty ≡ Some columns → row_at row columns fields ≡ Ok v → has_type v ty ≡ true
row_typed ty columns row fields v some e =
    elim (cases_Bool (length fields == length columns)) [
      | inl same ↦
          let (cells, read, is) = record_ok (cells_from row 1 columns fields) v (rw same at e) in
          rw is (has_type-input ty columns cells some
          ∙ cells_filled row 1 columns fields cells (eqb-true _ _ same) read)
      | inr other ↦
          let fault : ◌≡◌ {A = Result Value RowFault} (bad row 0 kind.Width) (Ok v)
          = rw other at e in cc fault
    ]

from_typed : (ty : Ty) (columns : List Column) (row : ℕ) (records : List (List (List ℕ)))
    (rows : List Value) → input_columns_of ty ≡ Some columns
    → rows_from row columns records ≡ Ok rows
    → All (λ row. IsTrue (has_type row ty)) rows
from_typed ty columns row [] rows some e =
    let same : ◌≡◌ {A = List Value} [] rows = cc in
    rw (← same) (All-nil (λ (v : Value). IsTrue (has_type v ty)))
from_typed ty columns row (fields ∷ records) rows some e =
    let (v, vs, one, more, is) =
    first_ok (row_at row columns fields) (rows_from (row + 1) columns records) rows e in
    rw is
    (All-cons (λ (v : Value). IsTrue (has_type v ty)) v vs
    (row_typed ty columns row fields v some one)
    (from_typed ty columns (row + 1) records vs some more))

header_typed : (ty : Ty) (columns : List Column) (at : Option ℕ) (records : List (List (List ℕ)))
    (rows : List Value) → input_columns_of ty ≡ Some columns
    → under_header columns at records ≡ Ok rows
    → All (λ row. IsTrue (has_type row ty)) rows
header_typed ty columns None records rows some e = from_typed ty columns 1 records rows some e
header_typed ty columns (Some at) records rows some e = cc e

pub under_typed : (ty : Ty) (columns : List Column) (records : List (List (List ℕ)))
    (rows : List Value) → input_columns_of ty ≡ Some columns → rows_under columns records ≡ Ok rows
    → All (λ row. IsTrue (has_type row ty)) rows
under_typed ty columns [] rows some e = cc e
under_typed ty columns (names ∷ records) rows some e =
    header_typed ty columns (header_fault columns names) records rows some e

input_typed : (ty : Ty) (o : Option (List Column)) (records : List (List (List ℕ)))
    (rows : List Value) → input_columns_of ty ≡ o
    → option_map (λ columns. rows_under columns records) o ≡ Some (Ok rows)
    → All (λ row. IsTrue (has_type row ty)) rows
input_typed ty None records rows is e = cc e
input_typed ty (Some columns) records rows is e =
    let read : rows_under columns records ≡ Ok rows = cc in
    under_typed ty columns records rows is read

pub rows_typed : (ty : Ty) (bytes : List ℕ) (rows : List Value)
    → rows_of bytes ty ≡ Some (Ok rows) → All (λ row. IsTrue (has_type row ty)) rows
rows_typed ty bytes rows e =
    input_typed ty (input_columns_of ty) (records_of bytes) rows refl e
