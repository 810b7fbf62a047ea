use Rattle.std.proofs.Common.{◌≡◌, List, map, drop}
use Rattle.flume_types.specs.declared.types.Ty.{Ty}
use Rattle.type_table.specs.Table.{field_at}
use Rattle.written_types.specs.Written.{has_field}
use Rattle.written_types.proofs.written.unused.Given as goal

abbrev pub invariant-loop-field : goal.invariant-loop-field
invariant-loop-field l =
    (types : List Ty)
    → has_field l.name (map (field_at types) (drop l.field-index l.fields))
    ≡ has_field l.name (map (field_at types) l.fields)
