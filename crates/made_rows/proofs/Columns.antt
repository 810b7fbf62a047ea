-- The columns of the rows and of the sums.
use Rattle.std.proofs.Common.{◌≡◌, ◌∙◌, ℕ, List, [], ◌∷◌, codes, Some, ap, ap₂}
use Rattle.flume_types.specs.Columns.{cell_column, columns_of, field_columns, flat_columns, columns_at, input_columns_of, columns_and}
use Rattle.flume_types.specs.Tables.{table_of}
use Rattle.flume_types.specs.declared.types.Field.{Field}
use Rattle.flume_types.specs.declared.types.Ty.{Ty, Ty-F, out-Ty}
use Rattle.flume_types.specs.declared.types.Ty.TheVariants as ty
use Rattle.made_rows.specs.Sums.{row_columns, row_type, sum_columns}

abbrev pub named : List ℕ → Ty → Field Ty
named name t = record { name = name; ty = t }

abbrev pub row_fields : List (Field Ty)
row_fields = named (codes "k") ty.Int ∷ named (codes "v") ty.Int ∷ []

abbrev pub pair_fields : List (Field Ty)
pair_fields = named (codes "key") ty.Int ∷ named (codes "value") ty.Int ∷ []

pub row_columns_are : input_columns_of row_type ≡ Some row_columns
row_columns_are =
    ap columns_at (ty.outs-Rec row_fields)
    ∙ ap₂ (λ (x y : Ty-F Ty).
    columns_and (cell_column (codes "k") x) (columns_and (cell_column (codes "v") y) (Some [])))
    ty.outs-Int
    ty.outs-Int

pub sum_columns_are : columns_of (table_of ty.Int ty.Int) ≡ Some sum_columns
sum_columns_are =
    ap flat_columns (ty.outs-Rec pair_fields)
    ∙ ap₂ (λ (x y : Ty-F Ty).
    columns_and (field_columns (codes "key") x)
    (columns_and (field_columns (codes "value") y) (Some [])))
    ty.outs-Int ty.outs-Int
