use Rattle.std.proofs.Common.{◌≡◌, List, map, take}
use Rattle.flume_types.specs.declared.types.Ty.{Ty}
use Rattle.script_rules.specs.Operations.{operand_numbers}
use Rattle.script_state.specs.Held.{operand_in}
use Rattle.operation_check.proofs.flatten.numbers.Given as goal

abbrev pub invariant-loop-source : goal.invariant-loop-source
invariant-loop-source l =
    (types : List Ty)
    → l.numbers ≡ operand_numbers (map (operand_in types) (take l.source-index l.sources))
