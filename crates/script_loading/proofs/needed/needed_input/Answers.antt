use Rattle.std.proofs.Common.{◌∙◌, sym}
use Rattle.script_loading.proofs.InputLemmas.{at_other, at_unneeded, input_needed}
use Rattle.script_loading.proofs.needed.needed_input.Goals as goal

pub returns-then-not-is_needed-clause-none : goal.returns-then-not-is_needed-clause-none
returns-then-not-is_needed-clause-none c =
    let told = rw c.as_program-held.ensures.is at c.is_needed.ensures in
    at_unneeded c.args.program.now.script c.args.number (sym told ∙ c.if-not-is_needed.true)

pub returns-in-Input-clause-some : goal.returns-in-Input-clause-some
returns-in-Input-clause-some c =
    let held = c.as_program-held.ensures in
    let told = rw held.is at c.is_needed.ensures in
    input_needed c.args.program.now.script c.args.number _ c.in-Input.file c.in-Input.columns _
    (rw held.is at held.well_formed) (rw held.is at held.ready)
    (sym told ∙ c.if-not-is_needed.false) (rw held.is at c.node.ensures.is) c.in-Input.is
    c.as_slice.ensures

pub returns-in_default-clause-none : goal.returns-in_default-clause-none
returns-in_default-clause-none c =
    let held = c.as_program-held.ensures in
    let told = rw held.is at c.is_needed.ensures in
    at_other c.args.program.now.script c.args.number _ (sym told ∙ c.if-not-is_needed.false)
    (rw held.is at c.node.ensures.is) c.in_default.not-Input
