use Rattle.std.proofs.Common.{◌≡◌, map, drop}
use Rattle.std.specs.List.{list_all}
use Rattle.type_table.specs.Table.{type_at}
use Rattle.expression_types.specs.Types.{is_same}
use Rattle.expression_types.proofs.record.are_all.Given as goal

abbrev pub invariant-loop-other : goal.invariant-loop-other
invariant-loop-other l =
    list_all (is_same (type_at l.types l.first)) (map (type_at l.types)
    (drop l.other-index l.others))
    ≡ list_all (is_same (type_at l.types l.first)) (map (type_at l.types) l.others)
