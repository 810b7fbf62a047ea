use Rattle.std.proofs.Common.{Ok}
use Rattle.script_loading.proofs.ProgramLemmas.{checked_ready, checked_well, checked_written}
use Rattle.script_loading.proofs.script.program_of.Goals as goal

pub returns-clause-accepted : goal.returns-clause-accepted
returns-clause-accepted c =
    rw c.new.ensures
    (c.in_ok-ast.ast, c.in_ok-ast.ensures.accepted, c.in_ok-program.ensures)

pub new-requires-clause-well_formed : goal.new-requires-clause-well_formed
new-requires-clause-well_formed c =
    checked_well (λ program. program.script) c.in_ok-ast.ast (Ok c.in_ok-program.program)
    c.in_ok-program.ensures

pub returns-clause-written : goal.returns-clause-written
returns-clause-written c =
    rw c.new.ensures
    (checked_written (λ program. program.script) c.in_ok-ast.ast (Ok c.in_ok-program.program)
    c.in_ok-program.ensures)

pub new-requires-clause-ready : goal.new-requires-clause-ready
new-requires-clause-ready c =
    checked_ready (λ program. program.script) c.args.bytes.now c.in_ok-ast.ast
    (Ok c.in_ok-program.program) c.in_ok-ast.ensures.accepted c.in_ok-program.ensures
