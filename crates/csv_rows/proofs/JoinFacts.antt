-- The rows of some records and then of others.
use Rattle.std.proofs.Common.{◌≡◌, ◌+◌, ◌==◌, ◌∷◌, ◌++◌, ℕ, Bool, true, false, List, [], length, Option, Some, None, refl, sym, ap}
use Rattle.std.specs.Prelude.{IfOk, IsOkAnd, Result, Ok, Err, if◌then◌else◌}
use Rattle.flume_value.specs.declared.value.Value.{Value}
use Rattle.flume_value.specs.declared.value.Value.TheVariants as value
use Rattle.flume_types.specs.declared.column.Column.{Column}
use Rattle.flume_types.specs.declared.column.ColumnKind.{ColumnKind}
use Rattle.flume_types.specs.declared.column.ColumnKind.TheVariants as cell
use Rattle.int_text.specs.Ints.{int_of_text}
use Rattle.csv_rows.specs.Rows.{bad, bool_in_field, cell_at, cells_from, header_fault, record_of, row_at, rows_from, rows_under, text_in, under_header, value_or}
use Rattle.csv_rows.specs.declared.read.Head.{Head}
use Rattle.csv_rows.specs.declared.read.Head.TheVariants as head
use Rattle.csv_rows.specs.inner.Parts.{rows_behind}
use Rattle.csv_rows.specs.inner.Readers.{Fields}
use Rattle.csv_rows.specs.declared.fault.RowFault.{RowFault}
use Rattle.csv_rows.specs.declared.fault.RowKind.{RowKind}
use Rattle.csv_rows.specs.declared.fault.RowKind.TheVariants as kind
use Rattle.csv_rows.proofs.TypeFacts.{first_ok}

value_same : {T : Type 0} (n m at : ℕ) (why : RowKind) (made : T → Value) (o : Option T)
    (x : Value) → value_or (bad n at why) made o ≡ Ok x → value_or (bad m at why) made o ≡ Ok x
value_same n m at why made None x e = cc e
value_same n m at why made (Some t) x e = e

-- a field that has a value has it in any row
cell_same : (n m at : ℕ) (k : ColumnKind) (field : List ℕ) (x : Value)
    → cell_at n at k field ≡ Ok x → cell_at m at k field ≡ Ok x
cell_same n m at cell.Int field x e =
    value_same n m at kind.NotInt (λ i. value.Int i) (int_of_text field) x e
cell_same n m at cell.Bool field x e =
    value_same n m at kind.NotBool (λ b. value.Bool b) (bool_in_field field) x e
cell_same n m at cell.Text field x e =
    value_same n m at kind.Utf8 (λ t. value.Text t) (text_in field) x e

cells_same : (n m at : ℕ) (columns : List Column) (fields : Fields) (cells : List Value)
    → cells_from n at columns fields ≡ Ok cells → cells_from m at columns fields ≡ Ok cells
cells_same n m at [] fields cells e = e
cells_same n m at (column ∷ columns) [] cells e = cc e
cells_same n m at (column ∷ columns) (field ∷ fields) cells e =
    let (v, vs, one, more, is)
    = first_ok (cell_at n at column.kind field) (cells_from n (at + 1) columns fields) cells e in
    rw (
      cell_same n m at column.kind field v one,
      cells_same n m (at + 1) columns fields vs more,
    ) (ap Ok (sym is))

record_same : (r s : Result (List Value) RowFault) (v : Value)
    → ((cells : List Value) → r ≡ Ok cells → s ≡ Ok cells)
    → record_of r ≡ Ok v → record_of s ≡ Ok v
record_same (Ok cells) s v same e = rw (same cells refl) e
record_same (Err f) s v same e = cc e

wide_same : (b : Bool) (n m : ℕ) (r s : Result (List Value) RowFault) (v : Value)
    → ((cells : List Value) → r ≡ Ok cells → s ≡ Ok cells)
    → (if b then record_of r else bad n 0 kind.Width) ≡ Ok v
    → (if b then record_of s else bad m 0 kind.Width) ≡ Ok v
wide_same true n m r s v same e = record_same r s v same e
wide_same false n m r s v same e = cc e

-- a record that is a row is one at any place
row_same : (n m : ℕ) (columns : List Column) (fields : Fields) (v : Value)
    → row_at n columns fields ≡ Ok v → row_at m columns fields ≡ Ok v
row_same n m columns fields v e =
    wide_same (length fields == length columns) n m (cells_from n 1 columns fields)
    (cells_from m 1 columns fields) v (cells_same n m 1 columns fields) e

rows_same : (n m : ℕ) (columns : List Column) (records : List Fields) (rows : List Value)
    → rows_from n columns records ≡ Ok rows → rows_from m columns records ≡ Ok rows
rows_same n m columns [] rows e = e
rows_same n m columns (fields ∷ records) rows e =
    let (v, vs, one, more, is)
    = first_ok (row_at n columns fields) (rows_from (n + 1) columns records) rows e in
    rw (
      row_same n m columns fields v one,
      rows_same (n + 1) (m + 1) columns records vs more,
    ) (ap Ok (sym is))

-- rows, and then those of other records, whatever the numbers of either
rows_joined : (n m : ℕ) (columns : List Column) (front back : List Fields)
    (xs ys : List Value) → rows_from n columns front ≡ Ok xs → rows_from m columns back ≡ Ok ys
    → rows_from n columns (front ++ back) ≡ Ok (xs ++ ys)
rows_joined n m columns [] back xs ys e f =
    let none : ◌≡◌ {A = List Value} [] xs = cc in
    rw (← none) (rows_same m n columns back ys f)
rows_joined n m columns (fields ∷ front) back xs ys e f =
    let (v, vs, one, more, is)
    = first_ok (row_at n columns fields) (rows_from (n + 1) columns front) xs e in
    rw (one, rows_joined (n + 1) m columns front back vs ys more f)
    (ap (λ (t : List Value). Ok (t ++ ys)) (sym is))

header_joined : (columns : List Column) (at : Option ℕ) (front back : List Fields)
    (xs ys : List Value) → under_header columns at front ≡ Ok xs
    → rows_from 1 columns back ≡ Ok ys → under_header columns at (front ++ back) ≡ Ok (xs ++ ys)
header_joined columns None front back xs ys e f = rows_joined 1 1 columns front back xs ys e f
header_joined columns (Some at) front back xs ys e f = cc e

-- a header and rows, and then the rows of other records
under_joined : (columns : List Column) (front back : List Fields) (xs ys : List Value)
    → rows_under columns front ≡ Ok xs → rows_from 1 columns back ≡ Ok ys
    → rows_under columns (front ++ back) ≡ Ok (xs ++ ys)
under_joined columns [] back xs ys e f = cc e
under_joined columns (names ∷ front) back xs ys e f =
    header_joined columns (header_fault columns names) front back xs ys e f

behind_joined : (h : Head) (columns : List Column) (front back : List Fields)
    (xs ys : List Value) → rows_behind h columns front ≡ Ok xs → rows_from 1 columns back ≡ Ok ys
    → rows_behind h columns (front ++ back) ≡ Ok (xs ++ ys)
behind_joined head.Names columns front back xs ys e f =
    under_joined columns front back xs ys e f
behind_joined head.NoNames columns front back xs ys e f =
    rows_joined 1 1 columns front back xs ys e f

-- the same of rows that were put together, where memory sufficed
behind_appended : (h : Head) (columns : List Column) (front back : List Fields)
    (xs ys : List Value) (all : Result (List Value) RowFault)
    → rows_behind h columns front ≡ Ok xs → rows_from 1 columns back ≡ Ok ys
    → IfOk all (λ rows. rows ≡ xs ++ ys)
    → IfOk all (λ rows. rows_behind h columns (front ++ back) ≡ Ok rows)
behind_appended h columns front back xs ys (Ok all) e f is =
    rw is (behind_joined h columns front back xs ys e f)
behind_appended h columns front back xs ys (Err why) e f is = tt

-- the same where both may have failed
pub both_appended : (h : Head) (columns : List Column) (front back : List Fields)
    (first rest all : Result (List Value) RowFault)
    → IfOk first (λ rows. rows_behind h columns front ≡ Ok rows)
    → IfOk rest (λ rows. rows_from 1 columns back ≡ Ok rows)
    → IfOk all (λ rows. IsOkAnd first (λ xs. IsOkAnd rest (λ ys. rows ≡ xs ++ ys)))
    → IfOk all (λ rows. rows_behind h columns (front ++ back) ≡ Ok rows)
both_appended h columns front back (Ok xs) (Ok ys) all e f is =
    behind_appended h columns front back xs ys all e f is
both_appended h columns front back (Ok xs) (Err why) (Ok all) e f is = absurd is
both_appended h columns front back (Ok xs) (Err why) (Err fault) e f is = tt
both_appended h columns front back (Err why) rest (Ok all) e f is = absurd is
both_appended h columns front back (Err why) rest (Err fault) e f is = tt
