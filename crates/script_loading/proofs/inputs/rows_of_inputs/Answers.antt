use Rattle.std.proofs.Common.{[], subst, sym}
use Rattle.script_loading.specs.Loads.{AllHaveRows}
use Rattle.script_loading.proofs.inputs.rows_of_inputs.Goals as goal

pub read_inputs-requires-clause-none : goal.read_inputs-requires-clause-none
read_inputs-requires-clause-none g c =
    subst (AllHaveRows (g.R.Source.seen c.args.source.now).files []) (sym c.new-rows.ensures) tt

pub returns-clause-typed : goal.returns-clause-typed
returns-clause-typed g c =
    c.inputs_law.ensures.inputs (g.R.Source.seen c.args.source.now).files
    c.args.program.now.script c.read_inputs.new.inputs.rows c.requires.written
    c.in_ok-read_inputs.ensures.read.0
