use Rattle.std.proofs.Common.{[], subst, sym}
use Rattle.script_loading.specs.Loads.{AllHaveRows}
use Rattle.keyed_loading.specs.Files.{AreFilesOf}
use Rattle.keyed_loading.proofs.inputs.keyed_inputs.Goals as goal

pub read_inputs-requires-clause-none : goal.read_inputs-requires-clause-none
read_inputs-requires-clause-none g c =
    let told = (g.R.Source.seen c.args.source.now).files in (
      subst (AllHaveRows told []) (sym c.new-rows.ensures) tt,
      subst (AreFilesOf told []) (sym c.new-files.ensures) tt,
    )

pub returns-clause-typed : goal.returns-clause-typed
returns-clause-typed g c =
    c.inputs_law.ensures.inputs (g.R.Source.seen c.args.source.now).files
    c.args.program.now.script c.read_inputs.new.inputs.rows c.requires.written
    c.in_ok-read_inputs.ensures.read.0.0
