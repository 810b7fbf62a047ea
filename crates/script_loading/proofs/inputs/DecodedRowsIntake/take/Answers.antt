use Rattle.script_loading.proofs.AskLemmas.{rows_behind}
use Rattle.script_loading.proofs.inputs.DecodedRowsIntake.take.Goals as goal

pub returns-clause-taken : goal.returns-clause-taken
returns-clause-taken g c = λ told type fits loads done all.
    rows_behind told c.args.it.now.file.now c.args.loaded type c.args.it.now.columns.now
    c.in_ok-own.own c.args.self.now.rows c.push.new.self done fits loads
    c.in_ok-own.ensures.rows c.in_ok-push.ensures.ok all
