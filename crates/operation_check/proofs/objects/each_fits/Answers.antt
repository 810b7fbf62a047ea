use Rattle.script_state.specs.Held.{operand_in}
use Rattle.type_table.specs.Table.{field_at}
use Rattle.script_rules.specs.Arguments.{fits_field}
use Rattle.operation_check.proofs.ArgumentLemmas.{not-fitting}
use Rattle.operation_check.proofs.objects.each_fits.Goals as goal

pub returns-then-operands-parts : goal.returns-then-operands-parts
returns-then-operands-parts c =
    let types = c.args.types.now in
    not-fitting fits_field (operand_in types) (field_at types) c.args.operands.now
    c.args.parts.now c.if-operands-parts.true
