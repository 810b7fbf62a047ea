use Rattle.std.proofs.Common.{◌≡◌, map, drop}
use Rattle.type_table.specs.Table.{type_at}
use Rattle.script_rules.specs.Operations.{all_same}
use Rattle.script_state.specs.Held.{operand_in}
use Rattle.operation_check.proofs.flatten.all_same.Given as goal

abbrev pub invariant-loop-source : goal.invariant-loop-source
invariant-loop-source l =
    all_same (type_at l.types l.id)
    (map (operand_in l.types) (drop l.source-index l.sources))
    ≡ all_same (type_at l.types l.id) (map (operand_in l.types) l.sources)
