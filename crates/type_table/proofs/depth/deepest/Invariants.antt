use Rattle.std.proofs.Common.{◌≡◌, max, map, drop}
use Rattle.flume_types.specs.Depth.{depth_of, deepest}
use Rattle.type_table.specs.Table.{kept_types, field_at, depth_kept}
use Rattle.type_table.proofs.depth.deepest.Given as goal

abbrev pub invariant-loop-part : goal.invariant-loop-part
invariant-loop-part l =
    max l.most
    (depth_kept
    (deepest depth_of (map (field_at (kept_types l.shapes.entries)) (drop l.part-index l.parts))))
    ≡ depth_kept (deepest depth_of (map (field_at (kept_types l.shapes.entries)) l.parts))
