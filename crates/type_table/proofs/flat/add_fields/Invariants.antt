use Rattle.std.proofs.Common.{◌≡◌, Some, drop, map}
use Rattle.flume_types.specs.Columns.{columns_and, record_columns}
use Rattle.type_table.specs.Table.{field_at}
use Rattle.type_table.proofs.flat.add_fields.Given as goal

abbrev pub invariant-loop-part : goal.invariant-loop-part
invariant-loop-part l =
    columns_and (Some l.columns)
    (record_columns (map (field_at l.types) (drop l.part-index l.parts))) ≡ columns_and
    (Some l.initial.columns) (record_columns (map (field_at l.types) l.parts))
