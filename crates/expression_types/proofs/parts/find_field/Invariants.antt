use Rattle.std.proofs.Common.{◌≡◌, List, map, drop}
use Rattle.flume_types.specs.declared.types.Ty.{Ty}
use Rattle.type_table.specs.Table.{field_at as held_field}
use Rattle.expression_types.specs.Fields.{named_field}
use Rattle.expression_types.proofs.parts.find_field.Given as goal

abbrev pub invariant-loop-place : goal.invariant-loop-place
invariant-loop-place l = (types : List Ty) →
    named_field l.name l.place (map (held_field types) (drop l.place l.parts))
    ≡ named_field l.name 0
    (map (held_field types) l.parts)
