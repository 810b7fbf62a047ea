use Rattle.std.proofs.Common.{◌≡◌, map, drop}
use Rattle.script_rules.specs.Arguments.{each_fits}
use Rattle.script_state.specs.Held.{operand_in}
use Rattle.type_table.specs.Table.{field_at}
use Rattle.operation_check.proofs.objects.each_fits.Given as goal

abbrev pub invariant-loop-place : goal.invariant-loop-place
invariant-loop-place l =
    each_fits (map (operand_in l.types) (drop l.place l.operands))
    (map (field_at l.types) (drop l.place l.parts))
    ≡ each_fits (map (operand_in l.types) l.operands) (map (field_at l.types) l.parts)
