use Rattle.std.proofs.Common.{ℕ, List, []}
use Rattle.std.proofs.lemmas.Result.{err_from_is_err_and}
use Rattle.script_loading.specs.of_direct_meaning.Inputs.{inputs_of}
use Rattle.script_loading.specs.Loads.{file_names}
use Rattle.run_course.specs.Limits.{usual_tries}
use Rattle.run_course.proofs.AskLemmas.{inputs_with, meant_until, none_behind}
use Rattle.run_course.proofs.commands.meant.Goals as goal

pub returns-in_err-inputs-clause-asked : goal.returns-in_err-inputs-clause-asked
returns-in_err-inputs-clause-asked g c =
    let end = c.from_residual in
    let p = err_from_is_err_and end.result end.ensures.1 in
    rw (p.1, p.2)
    (inputs_with usual_tries (file_names (inputs_of c.args.program.now.script))
    (g.R.Source.seen c.args.source.now) (g.R.Source.seen c.rows_of_inputs.new.source) []
    c.in_err-inputs.field-0.0 c.in_err-inputs.ensures.asked_until)

pub returns-clause-asked : goal.returns-clause-asked
returns-clause-asked g c =
    let names : List (List ℕ) = file_names (inputs_of c.args.program.now.script) in
    let before = g.R.Source.seen c.args.source.now in
    let after = g.R.Source.seen c.rows_of_inputs.new.source in
    none_behind usual_tries names before after c.written_meaning.result
    (meant_until usual_tries names before after c.args.program.now.script c.in_ok-inputs.inputs
    c.written_meaning.result c.written_meaning.ensures.stop c.in_ok-inputs.ensures.asked)
