use Rattle.std.proofs.Common.{◌≡◌, List, map, drop}
use Rattle.flume_types.specs.declared.types.Ty.{Ty}
use Rattle.script_rules.specs.Arguments.{are_objects}
use Rattle.script_state.specs.Held.{operand_in}
use Rattle.operation_check.proofs.objects.are_objects.Given as goal

abbrev pub invariant-loop-one : goal.invariant-loop-one
invariant-loop-one l =
    (types : List Ty)
    → are_objects (map (operand_in types) (drop l.one-index l.operands))
    ≡ are_objects (map (operand_in types) l.operands)
