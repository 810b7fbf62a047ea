use Rattle.std.proofs.Common.{◌≡◌, Some, drop}
use Rattle.flume_types.specs.Columns.{columns_and, cells_under}
use Rattle.flume_types.proofs.flat.add_cells.Given as goal

abbrev pub invariant-loop-field : goal.invariant-loop-field
invariant-loop-field l = columns_and (Some l.columns)
    (cells_under l.prefix (drop l.field-index l.fields))
    ≡ columns_and (Some l.initial.columns) (cells_under l.prefix l.fields)
