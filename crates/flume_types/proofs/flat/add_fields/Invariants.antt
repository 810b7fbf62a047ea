use Rattle.std.proofs.Common.{◌≡◌, Some, drop}
use Rattle.flume_types.specs.Columns.{columns_and, record_columns}
use Rattle.flume_types.proofs.flat.add_fields.Given as goal

abbrev pub invariant-loop-field : goal.invariant-loop-field
invariant-loop-field l = columns_and (Some l.columns)
    (record_columns (drop l.field-index l.fields))
    ≡ columns_and (Some l.initial.columns) (record_columns l.fields)
