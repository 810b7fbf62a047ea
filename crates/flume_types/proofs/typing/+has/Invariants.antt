use Rattle.std.proofs.Common.{◌≡◌, drop}
use Rattle.std.specs.List.{list_all}
use Rattle.flume_types.specs.Typing.{has_type, each_has}
use Rattle.flume_types.proofs.typing.+has.Given as goal

abbrev pub invariant-all_have-loop-item : goal.invariant-all_have-loop-item
invariant-all_have-loop-item l = list_all (λ x. has_type x l.ty) l.items
    ≡ list_all (λ x. has_type x l.ty) (drop l.item-index l.items)

abbrev pub invariant-each_has-loop-i : goal.invariant-each_has-loop-i
invariant-each_has-loop-i l = each_has has_type l.items l.fields
    ≡ each_has has_type (drop l.i l.items) (drop l.i l.fields)
