use Rattle.script_state.specs.Held.{operand_in}
use Rattle.script_rules.specs.Rules.{is_like}
use Rattle.operation_check.proofs.ArgumentLemmas.{not-fitting}
use Rattle.let_check.proofs.repeats.alike.Goals as goal

pub returns-then-from-given : goal.returns-then-from-given
returns-then-from-given c =
    let view = operand_in c.args.types.now in
    not-fitting is_like view view c.args.from.now c.args.given.now c.if-from-given.true
