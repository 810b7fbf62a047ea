-- The cells of a value of a flat type fill the type's columns.
use Rattle.std.proofs.Common.{◌≡◌, ℕ, true, ◌&&◌, List, [], ◌∷◌, ◌++◌, Option, Some, None, option_map, unwrap_or, refl, sym, ap, ◌∙◌, subst}
use Rattle.std.specs.List.{flat_map}
use Rattle.std.proofs.lemmas.List.Concat.{flat_map-cons}
use Rattle.flume_value.specs.declared.value.Value.{Value, Value-F, out-Value}
use Rattle.flume_value.specs.declared.value.Value.TheVariants as variant
use Rattle.flume_value.proofs.BoolLemmas.{both_true}
use Rattle.flume_types.specs.declared.types.Ty.{Ty, Ty-F, out-Ty}
use Rattle.flume_types.specs.declared.types.Field.{Field}
use Rattle.flume_types.specs.declared.column.Column.{Column}
use Rattle.flume_types.specs.declared.column.ColumnKind.{ColumnKind}
use Rattle.flume_types.specs.declared.column.ColumnKind.TheVariants as kind
use Rattle.flume_types.specs.Typing.{each_has, layer_has, has_type}
use Rattle.flume_types.specs.Columns.{cell_kind, cell_column, columns_and, cells_under, field_columns, record_columns, flat_columns, columns_of, columns_at, input_columns_of}
use Rattle.flume_types.specs.Cells.{field_cells, row_cells, cells_of, is_cell, are_filled}
use Rattle.flume_types.proofs.TypingLemmas.{has_type-step}

some_is : {A : Type 0} (x y : A) → Some x ≡ Some y → x ≡ y
some_is x y e = ap (λ o. unwrap_or o x) e

-- ---- the values of a type that has cells

int_typed : (x : Value-F Value) → layer_has has_type x Ty-F.Int ≡ is_cell kind.Int x
int_typed (Value-F.Int n) = refl
int_typed _ = refl

bool_typed : (x : Value-F Value) → layer_has has_type x Ty-F.Bool ≡ is_cell kind.Bool x
bool_typed (Value-F.Bool b) = refl
bool_typed _ = refl

text_typed : (x : Value-F Value) → layer_has has_type x Ty-F.Text ≡ is_cell kind.Text x
text_typed (Value-F.Text s) = refl
text_typed _ = refl

cell_typed : (x : Value-F Value) (t : Ty-F Ty) (k : ColumnKind) → cell_kind t ≡ Some k
    → layer_has has_type x t ≡ is_cell k x
cell_typed x Ty-F.Int k e = subst (λ k. layer_has has_type x Ty-F.Int ≡ is_cell k x)
    (some_is kind.Int k e) (int_typed x)
cell_typed x Ty-F.Bool k e = subst (λ k. layer_has has_type x Ty-F.Bool ≡ is_cell k x)
    (some_is kind.Bool k e) (bool_typed x)
cell_typed x Ty-F.Text k e = subst (λ k. layer_has has_type x Ty-F.Text ≡ is_cell k x)
    (some_is kind.Text k e) (text_typed x)
cell_typed x (Ty-F.List t) k e = cc
cell_typed x (Ty-F.Rec fields) k e = cc
cell_typed x (Ty-F.Either t u) k e = cc

-- ---- the first columns and the others

one_column : (name : List ℕ) (t : Ty-F Ty) (own : List Column) → cell_column name t ≡ Some own
    → (k : ColumnKind) × (cell_kind t ≡ Some k) × (own ≡ record { name = name; kind = k } ∷ [])
one_column name t own e =
    elim (cell_kind t) as (λ o. cell_kind t ≡ o
    → option_map (λ k. record { name = name; kind = k } ∷ []) o ≡ Some own → (k : ColumnKind)
    × (cell_kind t ≡ Some k) × (own ≡ record { name = name; kind = k } ∷ [])) [
      | None ↦ λ is e. cc
      | Some k ↦ λ is e. (k, is, sym (some_is (record { name = name; kind = k } ∷ []) own e))
    ] refl e

both_columns : (first rest : Option (List Column)) (all : List Column) → columns_and first rest
    ≡ Some all → (own : List Column) × (more : List Column) × (first ≡ Some own)
    × (rest ≡ Some more) × (all ≡ own ++ more)
both_columns None rest all e = cc
both_columns (Some own) None all e = cc
both_columns (Some own) (Some more) all e =
    (own, more, refl, refl, sym (some_is (own ++ more) all e))

-- ---- records of cells

cells_under-are_filled : (prefix : List ℕ) (fields : List (Field Ty)) (columns : List Column)
    → cells_under prefix fields ≡ Some columns → (cells : List Value)
    → each_has has_type cells fields ≡ are_filled columns cells
cells_under-are_filled prefix [] columns e [] =
    ap (λ columns. are_filled columns []) (some_is [] columns e)
cells_under-are_filled prefix [] columns e (x ∷ xs) =
    ap (λ columns. are_filled columns (x ∷ xs)) (some_is [] columns e)
cells_under-are_filled prefix (f ∷ fields) columns e cells =
    let parts = both_columns (cell_column (prefix ++ f.name) (out-Ty f.ty))
    (cells_under prefix fields) columns e in
    let one = one_column (prefix ++ f.name) (out-Ty f.ty) parts.0 parts.2 in
    let whole : record { name = prefix ++ f.name; kind = one.0 } ∷ parts.1
    ≡ columns = sym (parts.4 ∙ ap (λ own. own ++ parts.1) one.2) in
    subst (λ columns. each_has has_type cells (f ∷ fields) ≡ are_filled columns cells) whole
    (filled f fields (prefix ++ f.name) one.0 parts.1 one.1
    (cells_under-are_filled prefix fields parts.1 parts.3) cells)
  where
    filled : (f : Field Ty) (fields : List (Field Ty)) (name : List ℕ) (k : ColumnKind)
        (more : List Column) → cell_kind (out-Ty f.ty) ≡ Some k
        → ((cells : List Value) → each_has has_type cells fields ≡ are_filled more cells)
        → (cells : List Value) → each_has has_type cells (f ∷ fields)
        ≡ are_filled (record { name = name; kind = k } ∷ more) cells
    filled f fields name k more is rest [] = refl
    filled f fields name k more is rest (x ∷ xs) =
        λ i. (has_type-step x f.ty ∙ cell_typed (out-Value x) (out-Ty f.ty) k is) i && rest xs i

input_filled : (t : Ty-F Ty) (columns : List Column) → columns_at t ≡ Some columns
    → (cells : List Value) → layer_has has_type (Value-F.Rec cells) t ≡ are_filled columns cells
input_filled (Ty-F.Rec fields) columns e cells = cells_under-are_filled [] fields columns e cells
input_filled _ columns e cells = cc

-- a record has an input's type exactly where its fields fill the columns
pub has_type-input : (t : Ty) (columns : List Column) (cells : List Value) → input_columns_of t
    ≡ Some columns → has_type (variant.Rec cells) t ≡ are_filled columns cells
has_type-input t columns cells e =
    has_type-step (variant.Rec cells) t
    ∙ ap (λ x. layer_has has_type x (out-Ty t)) (variant.outs-Rec cells)
    ∙ input_filled (out-Ty t) columns e cells

-- ---- an input's type is flat

field_of_cell : (name : List ℕ) (t : Ty-F Ty) (own : List Column) → cell_column name t ≡ Some own
    → field_columns name t ≡ Some own
field_of_cell name (Ty-F.Rec fields) own e = cc
field_of_cell name Ty-F.Int own e = e
field_of_cell name Ty-F.Bool own e = e
field_of_cell name Ty-F.Text own e = e
field_of_cell name (Ty-F.List t) own e = cc
field_of_cell name (Ty-F.Either t u) own e = cc

fields_of_cells : (fields : List (Field Ty)) (columns : List Column) → cells_under [] fields
    ≡ Some columns → record_columns fields ≡ Some columns
fields_of_cells [] columns e = e
fields_of_cells (f ∷ fields) columns e =
    let parts = both_columns (cell_column f.name (out-Ty f.ty)) (cells_under [] fields) columns e in
    (λ i. columns_and (field_of_cell f.name (out-Ty f.ty) parts.0 parts.2 i)
    (fields_of_cells fields parts.1 parts.3 i)) ∙ sym (ap Some parts.4)

flat_input : (t : Ty-F Ty) (columns : List Column) → columns_at t ≡ Some columns → flat_columns t
    ≡ Some columns
flat_input (Ty-F.Rec fields) columns e = fields_of_cells fields columns e
flat_input _ columns e = cc

pub columns_of-input : (t : Ty) (columns : List Column) → input_columns_of t ≡ Some columns
    → columns_of t ≡ Some columns
columns_of-input t columns e = flat_input (out-Ty t) columns e

-- ---- flat types

are_filled-append : (own more : List Column) (xs ys : List Value) → are_filled own xs ≡ true
    → are_filled more ys ≡ true → are_filled (own ++ more) (xs ++ ys) ≡ true
are_filled-append [] more [] ys e f = f
are_filled-append [] more (x ∷ xs) ys e f = cc
are_filled-append (c ∷ own) more [] ys e f = cc
are_filled-append (c ∷ own) more (x ∷ xs) ys e f =
    let both = both_true (is_cell c.kind (out-Value x)) (are_filled own xs) e in
    λ i. both.0 i && are_filled-append own more xs ys both.1 f i

-- a cell is its own one cell
cell_alone : (v : Value) (k : ColumnKind) (x : Value-F Value) → is_cell k x ≡ true
    → (field_cells v x ≡ v ∷ []) × (row_cells v x ≡ v ∷ [])
cell_alone v k (Value-F.Rec xs) e =
    elim k as (λ k. is_cell k (Value-F.Rec xs) ≡ true → (xs ≡ v ∷ [])
    × (row_cells v (Value-F.Rec xs) ≡ v ∷ [])) [
      | kind.Int ↦ λ e. cc
      | kind.Bool ↦ λ e. cc
      | kind.Text ↦ λ e. cc
    ] e
cell_alone v k _ e = (refl, refl)

-- a value of a type that has cells fills its one column, by itself
cell_fills : (name : List ℕ) (t : Ty-F Ty) (own : List Column) → cell_column name t ≡ Some own
    → (v : Value) → layer_has has_type (out-Value v) t ≡ true
    → (are_filled own (field_cells v (out-Value v)) ≡ true)
    × (are_filled own (row_cells v (out-Value v)) ≡ true)
cell_fills name t own e v h =
    let one = one_column name t own e in
    let is : is_cell one.0 (out-Value v) ≡ true = sym (cell_typed (out-Value v) t one.0 one.1)
    ∙ h in
    let alone = cell_alone v one.0 (out-Value v) is in
    let filled : are_filled own (v ∷ []) ≡ true = ap (λ own. are_filled own (v ∷ [])) one.2
    ∙ (λ i. is i && true) in
    (ap (are_filled own) alone.0 ∙ filled, ap (are_filled own) alone.1 ∙ filled)

record_fills : (prefix : List ℕ) (fields : List (Field Ty)) (own : List Column)
    → cells_under prefix fields ≡ Some own → (v : Value) (x : Value-F Value)
    → layer_has has_type x (Ty-F.Rec fields) ≡ true → are_filled own (field_cells v x) ≡ true
record_fills prefix fields own e v (Value-F.Rec cells) h =
    sym (cells_under-are_filled prefix fields own e cells) ∙ h
record_fills prefix fields own e v _ h = cc

field_fills : (name : List ℕ) (t : Ty-F Ty) (own : List Column) → field_columns name t ≡ Some own
    → (v : Value) → layer_has has_type (out-Value v) t ≡ true
    → are_filled own (field_cells v (out-Value v)) ≡ true
field_fills name (Ty-F.Rec fields) own e v h = record_fills _ fields own e v (out-Value v) h
field_fills name Ty-F.Int own e v h = (cell_fills name Ty-F.Int own e v h).0
field_fills name Ty-F.Bool own e v h = (cell_fills name Ty-F.Bool own e v h).0
field_fills name Ty-F.Text own e v h = (cell_fills name Ty-F.Text own e v h).0
field_fills name (Ty-F.List t) own e v h = cc
field_fills name (Ty-F.Either t u) own e v h = cc

abbrev field_cells_of : Value → List Value
field_cells_of v = field_cells v (out-Value v)

fields_fill : (fields : List (Field Ty)) (columns : List Column) → record_columns fields
    ≡ Some columns → (xs : List Value) → each_has has_type xs fields ≡ true
    → are_filled columns (flat_map field_cells_of xs) ≡ true
fields_fill [] columns e [] h = ap (λ columns. are_filled columns []) (sym (some_is [] columns e))
fields_fill [] columns e (x ∷ xs) h = cc
fields_fill (f ∷ fields) columns e [] h = cc
fields_fill (f ∷ fields) columns e (x ∷ xs) h =
    let parts = both_columns (field_columns f.name (out-Ty f.ty)) (record_columns fields) columns e
    in
    let both = both_true (has_type x f.ty) (each_has has_type xs fields) h in
    let own : are_filled parts.0 (field_cells_of x)
    ≡ true = field_fills f.name (out-Ty f.ty) parts.0 parts.2 x
    (sym (has_type-step x f.ty) ∙ both.0) in
    (λ i. are_filled (parts.4 i) (flat_map-cons field_cells_of x xs i))
    ∙ are_filled-append parts.0 parts.1 (field_cells_of x) (flat_map field_cells_of xs) own
    (fields_fill fields parts.1 parts.3 xs both.1)

row_of_record : (fields : List (Field Ty)) (columns : List Column) → flat_columns (Ty-F.Rec fields)
    ≡ Some columns → (v : Value) (x : Value-F Value) → layer_has has_type x (Ty-F.Rec fields) ≡ true
    → are_filled columns (row_cells v x) ≡ true
row_of_record fields columns e v (Value-F.Rec xs) h = fields_fill fields columns e xs h
row_of_record fields columns e v _ h = cc

row_fills : (t : Ty-F Ty) (columns : List Column) → flat_columns t ≡ Some columns → (v : Value)
    → layer_has has_type (out-Value v) t ≡ true → are_filled columns (row_cells v (out-Value v))
    ≡ true
row_fills (Ty-F.Rec fields) columns e v h = row_of_record fields columns e v (out-Value v) h
row_fills Ty-F.Int columns e v h = (cell_fills _ Ty-F.Int columns e v h).1
row_fills Ty-F.Bool columns e v h = (cell_fills _ Ty-F.Bool columns e v h).1
row_fills Ty-F.Text columns e v h = (cell_fills _ Ty-F.Text columns e v h).1
row_fills (Ty-F.List t) columns e v h = cc
row_fills (Ty-F.Either t u) columns e v h = cc

pub cells_of-are_filled : (v : Value) (t : Ty) (columns : List Column) → columns_of t ≡ Some columns
    → has_type v t ≡ true → are_filled columns (cells_of v) ≡ true
cells_of-are_filled v t columns e h = row_fills (out-Ty t) columns e v (sym (has_type-step v t) ∙ h)
