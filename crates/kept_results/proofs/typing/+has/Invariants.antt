use Rattle.std.proofs.Common.{◌≡◌, drop, map}
use Rattle.std.specs.List.{list_all}
use Rattle.flume_types.specs.Typing.{each_has, has_type}
use Rattle.type_table.specs.Table.{field_at, type_at}
use Rattle.kept_results.proofs.typing.+has.Given as goal

abbrev pub invariant-all_have-loop-item : goal.invariant-all_have-loop-item
invariant-all_have-loop-item l =
    list_all (λ x. has_type x (type_at l.types l.id)) l.items
    ≡ list_all (λ x. has_type x (type_at l.types l.id)) (drop l.item-index l.items)

abbrev pub invariant-each_has-loop-i : goal.invariant-each_has-loop-i
invariant-each_has-loop-i l =
    each_has has_type l.items (map (field_at l.types) l.parts)
    ≡ each_has has_type (drop l.i l.items) (map (field_at l.types) (drop l.i l.parts))
