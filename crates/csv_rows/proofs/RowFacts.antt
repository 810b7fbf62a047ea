-- How rows, fields and names are read one by one.
use Rattle.std.proofs.Common.{◌≡◌, ◌≢◌, ◌<◌, ◌≤◌, ◌+◌, ◌∷◌, ◌++◌, ◌∙◌, ℕ, zero, suc, Bool, true, false, List, [], length, drop, get_or, not, Option, Some, None, refl, sym, ap, arith, inl, inr, add-one, append_assoc, drop-cons, eq-eqb, eqb-true, ne_eqb}
use Rattle.std.specs.Prelude.{◌==◌, Result, Ok, Err, IfSome, IsUtf8, if◌then◌else◌}
use Rattle.std.proofs.lemmas.Bool.{cases_Bool}
use Rattle.std.proofs.lemmas.List.{append-nil, drop_all}
use Rattle.std.proofs.lemmas.Str.{IsUtf8-from_is_utf8, is_utf8-from_IsUtf8}
use Rattle.std.specs.Str.{bytes_eq, is_utf8}
use Rattle.csv.specs.Records.{field_at}
use Rattle.flume_value.specs.declared.value.Value.{Value}
use Rattle.flume_value.specs.declared.value.Value.TheVariants as value
use Rattle.csv_rows.specs.inner.Readers.{NoneLeft, OtherLengthNext, Takes}
use Rattle.csv_rows.specs.Rows.{and_more, bad, cell_at, cells_from, first_then, header_fault, other_name, record_of, row_at, rows_from}
use Rattle.flume_types.specs.declared.column.Column.{Column}
use Rattle.csv_rows.specs.declared.fault.RowFault.{RowFault}
use Rattle.csv_rows.specs.declared.fault.RowKind.TheVariants as kind

pub text_yes : (bs : List ℕ) → IsUtf8 bs → is_utf8 bs ≡ true
text_yes = is_utf8-from_IsUtf8

pub text_no : (bs : List ℕ) → ¬ (IsUtf8 bs) → is_utf8 bs ≡ false
text_no bs h =
    elim (cases_Bool (is_utf8 bs)) [ inl e ↦ absurd (h (IsUtf8-from_is_utf8 bs e)) | inr e ↦ e ]

pub ruleset text_tests = (text_yes, text_no)

-- the field at a place is the first from there on
field_at-some : (xs : List (List ℕ)) (i : ℕ) (v : List ℕ) → field_at xs i ≡ Some v
    → drop i xs ≡ v ∷ drop (i + 1) xs
unfolding field_at
field_at-some [] i v e = cc e
field_at-some (x ∷ xs) zero v e = cc e
field_at-some (x ∷ xs) (suc i) v e =
    let n : suc i + 1 ≡ suc (i + 1) = omega arith in rw n (field_at-some xs i v e)

pub field_at-none : (xs : List (List ℕ)) (i : ℕ) → field_at xs i ≡ None → length xs ≤ i
unfolding field_at
field_at-none [] i e = omega arith
field_at-none (x ∷ xs) zero e = cc e
field_at-none (x ∷ xs) (suc i) e = let h = field_at-none xs i e in omega arith

-- the column at a place is the first from there on
column_at : (columns : List Column) (i : ℕ) (d : Column) → i < length columns
    → drop i columns ≡ get_or columns i d ∷ drop (i + 1) columns
column_at columns i d lt = rw add-one (drop-cons columns i d lt)

-- some values, and then those of what is left
abbrev pub after : List Value → Result (List Value) RowFault → Result (List Value) RowFault
after xs (Ok ys) = Ok (xs ++ ys)
after xs (Err e) = Err e

after-more : (xs : List Value) (x : Value) (rest : Result (List Value) RowFault)
    → after xs (and_more x rest) ≡ after (xs ++ (x ∷ [])) rest
after-more xs x (Ok ys) = ap Ok (sym (append_assoc xs (x ∷ []) ys))
after-more xs x (Err e) = refl

-- a header of the right length is faulty where a name is
pub header_is : (columns : List Column) (names : List (List ℕ)) → length names ≡ length columns
    → header_fault columns names ≡ other_name 1 columns names
header_is columns names e = rw (eq-eqb (length names) (length columns) e) refl

not-turn : (b t : Bool) → b ≡ not t → t ≡ not b
not-turn b true e = rw e refl
not-turn b false e = rw e refl

-- what a test of two names says of the column's
name_test : (c : Column) (mine name : List ℕ) (b : Bool) → mine ≡ c.name
    → b ≡ not (bytes_eq mine name) → bytes_eq c.name name ≡ not b
name_test c mine name b e t = rw (← e) (not-turn b (bytes_eq mine name) t)

-- one more name
pub names_next : (columns : List Column) (names : List (List ℕ)) (i : ℕ) (d : Column)
    (mine name : List ℕ) (b : Bool) → i < length columns → Some name ≡ field_at names i
    → mine ≡ (get_or columns i d).name → b ≡ not (bytes_eq mine name)
    → other_name 1 columns names ≡ other_name (i + 1) (drop i columns) (drop i names)
    → other_name 1 columns names ≡
    (if not b then other_name (i + 1 + 1) (drop (i + 1) columns) (drop (i + 1) names)
    else Some (i + 1))
names_next columns names i d mine name b low at is test h =
    let c : Column = get_or columns i d in
    let next : other_name 1 columns names ≡
    (if bytes_eq c.name name then other_name (i + 1 + 1) (drop (i + 1) columns)
    (drop (i + 1) names) else Some (i + 1)) =
    h ∙ rw (column_at columns i d low, field_at-some names i name (sym at)) refl in
    rw (name_test c mine name b is test) at next

-- a row of the right length is the values of its fields
row_is : (row : ℕ) (columns : List Column) (fields : List (List ℕ))
    → length fields ≡ length columns
    → row_at row columns fields ≡ record_of (cells_from row 1 columns fields)
row_is row columns fields e = rw (eq-eqb (length fields) (length columns) e) refl

-- the values of a row's fields are these, and then those from a place on
abbrev pub Reads : ℕ → List Column → List (List ℕ) → List Value → ℕ → Type 0
Reads row columns fields cells i =
    cells_from row 1 columns fields ≡ after cells
    (cells_from row (i + 1) (drop i columns) (drop i fields))

cells_next : (row : ℕ) (columns : List Column) (fields : List (List ℕ)) (cells : List Value)
    (i : ℕ) (d : Column) (field : List ℕ) → i < length columns → Some field ≡ field_at fields i
    → Reads row columns fields cells i
    → cells_from row 1 columns fields ≡ after cells
    (first_then (cell_at row (i + 1) (get_or columns i d).kind field)
    (cells_from row (i + 1 + 1) (drop (i + 1) columns) (drop (i + 1) fields)))
cells_next row columns fields cells i d field low at h =
    h ∙ rw (column_at columns i d low, field_at-some fields i field (sym at)) refl

-- a field's fault is the row's
pub cell_fault : (row : ℕ) (columns : List Column) (fields : List (List ℕ)) (cells : List Value)
    (i : ℕ) (d : Column) (field : List ℕ) (e : RowFault) → length fields ≡ length columns
    → i < length columns → Some field ≡ field_at fields i → Reads row columns fields cells i
    → cell_at row (i + 1) (get_or columns i d).kind field ≡ Err e
    → row_at row columns fields ≡ Err e
cell_fault row columns fields cells i d field e size low at h fault =
    row_is row columns fields size
    ∙ ap record_of (rw fault at (cells_next row columns fields cells i d field low at h))

-- a field's value joins those before it
pub cell_more : (row : ℕ) (columns : List Column) (fields : List (List ℕ)) (cells : List Value)
    (i : ℕ) (d : Column) (field : List ℕ) (x : Value) → i < length columns
    → Some field ≡ field_at fields i → Reads row columns fields cells i
    → cell_at row (i + 1) (get_or columns i d).kind field ≡ Ok x
    → Reads row columns fields (cells ++ (x ∷ [])) (i + 1)
cell_more row columns fields cells i d field x low at h ok =
    rw ok at (cells_next row columns fields cells i d field low at h) ∙ after-more cells x _

-- the rows of all records are these, and then those of the records left from a row's number on
abbrev pub Continues : List Column → Option (List (List (List ℕ))) → ℕ → List Value
    → Option (List (List (List ℕ))) → Type 0
Continues columns None row rows left = Unit {0}
Continues columns (Some records) row rows None = ⊥
Continues columns (Some records) row rows (Some left) =
    rows_from 1 columns records ≡ after rows (rows_from row columns left)

-- what all records mean, where they are known
abbrev pub Means : List Column → Option (List (List (List ℕ))) → Result (List Value) RowFault
    → Type 0
Means columns all answer = IfSome all (λ records. rows_from 1 columns records ≡ answer)

pub row_more : (columns : List Column) (all now left : Option (List (List (List ℕ)))) (row : ℕ)
    (rows : List Value) (fields : List (List ℕ)) (x : Value)
    → Continues columns all row rows now → Takes now fields left → row_at row columns fields ≡ Ok x
    → Continues columns all (row + 1) (rows ++ (x ∷ [])) left
row_more columns None now left row rows fields x h t ok = tt
row_more columns (Some records) None left row rows fields x h t ok = absurd h
row_more columns (Some records) (Some xs) None row rows fields x h t ok = absurd t
row_more columns (Some records) (Some xs) (Some ys) row rows fields x h t ok =
    rw (t, ok) at h ∙ after-more rows x _

pub row_fault : (columns : List Column) (all now left : Option (List (List (List ℕ)))) (row : ℕ)
    (rows : List Value) (fields : List (List ℕ)) (e : RowFault)
    → Continues columns all row rows now → Takes now fields left
    → row_at row columns fields ≡ Err e → Means columns all (Err e)
row_fault columns None now left row rows fields e h t fault = tt
row_fault columns (Some records) None left row rows fields e h t fault = absurd h
row_fault columns (Some records) (Some xs) None row rows fields e h t fault = absurd t
row_fault columns (Some records) (Some xs) (Some ys) row rows fields e h t fault =
    rw (t, fault) at h

width-fault : (row : ℕ) (columns : List Column) (fields : List (List ℕ))
    → length fields ≢ length columns → row_at row columns fields ≡ bad row 0 kind.Width
width-fault row columns fields other = rw (ne_eqb (length fields) (length columns) other) refl

pub wide_fault : (columns : List Column) (all now : Option (List (List (List ℕ)))) (row : ℕ)
    (rows : List Value) (width : Option ℕ)
    → Continues columns all row rows now → OtherLengthNext now width
    → IfSome width (λ w. w ≡ length columns) → Means columns all (bad row 0 kind.Width)
wide_fault columns all now row rows None h o e = absurd o
wide_fault columns None now row rows (Some w) h o e = tt
wide_fault columns (Some records) None row rows (Some w) h o e = absurd h
wide_fault columns (Some records) (Some xs) row rows (Some w) h o e =
    let (fields, rest, is, other) = o in
    rw (is, width-fault row columns fields (rw e at other)) at h

-- a row has a field for each column
pub row_width : (row : ℕ) (columns : List Column) (fields : List (List ℕ)) (x : Value)
    → row_at row columns fields ≡ Ok x → length fields ≡ length columns
row_width row columns fields x e =
    elim (cases_Bool (length fields == length columns)) [
      | inl same ↦ eqb-true (length fields) (length columns) same
      | inr other ↦ cc (rw other at e)
    ]

pub rows_end : (columns : List Column) (all now : Option (List (List (List ℕ)))) (row : ℕ)
    (rows : List Value)
    → Continues columns all row rows now → NoneLeft now → Means columns all (Ok rows)
rows_end columns None now row rows h n = tt
rows_end columns (Some records) None row rows h n = absurd h
rows_end columns (Some records) (Some xs) row rows h n = rw (n, append-nil) at h
