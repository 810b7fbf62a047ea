use Rattle.script_loading.proofs.AskLemmas.{asks_nothing, asks_own, none_behind, one_behind, stops_own}
use Rattle.script_loading.proofs.reading.read_input.Goals as goal

pub returns-in-Some-clause-taken : goal.returns-in-Some-clause-taken
returns-in-Some-clause-taken g c =
    let told = (g.R.Source.seen c.args.source.now).files in
    one_behind c.args.program.now.script c.args.number _ _ c.in-Some.ensures.some
    c.read_file.result (g.I.Intake.are_of c.args.inputs.now told)
    (g.I.Intake.are_of c.read_file.new.inputs told) c.read_file.ensures.taken

pub returns-in-Some-clause-err : goal.returns-in-Some-clause-err
returns-in-Some-clause-err g c =
    stops_own c.args.program.now.script c.args.number _ _ c.in-Some.ensures.some
    c.read_file.result c.args.tries (g.R.Source.seen c.args.source.now)
    (g.R.Source.seen c.read_file.new.source) c.read_file.ensures.err

pub returns-in-Some-clause-asked : goal.returns-in-Some-clause-asked
returns-in-Some-clause-asked g c =
    asks_own c.args.program.now.script c.args.number _ _ c.in-Some.ensures.some c.args.tries
    (g.R.Source.seen c.args.source.now) (g.R.Source.seen c.read_file.new.source)
    c.read_file.ensures.asked

pub returns-in-None-clause-taken : goal.returns-in-None-clause-taken
returns-in-None-clause-taken g c =
    none_behind c.args.program.now.script c.args.number c.in-None.ensures.none
    (g.I.Intake.are_of c.args.inputs.now (g.R.Source.seen c.args.source.now).files)

pub returns-in-None-clause-asked : goal.returns-in-None-clause-asked
returns-in-None-clause-asked g c =
    asks_nothing c.args.program.now.script c.args.number c.in-None.ensures.none c.args.tries
    (g.R.Source.seen c.args.source.now)
