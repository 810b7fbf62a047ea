use Rattle.std.proofs.Common.{map}
use Rattle.script_program.specs.Program.{making_in}
use Rattle.let_check.proofs.NameLemmas.{are-new}
use Rattle.let_check.proofs.lets.makings_for.Goals as goal

pub returns-clause-new : goal.returns-clause-new
returns-clause-new c =
    are-new c.args.line c.args.names.now
    (map (making_in c.made_by.new.state.types) c.in_ok-makings.makings)
    c.args.state.now.state tt c.in_ok-all_fresh.ensures
