use Rattle.std.proofs.Common.{subst, sym}
use Rattle.made_rows.specs.of_script_laws.WellFormed.{IsWellFormed}
use Rattle.run_course.specs.of_script_loading.Ready.{IsReady}
use Rattle.made_course.proofs.Ready.{ready}
use Rattle.made_course.proofs.summing.sums_ready.Goals as goal

pub new-requires-clause-well_formed : goal.new-requires-clause-well_formed
new-requires-clause-well_formed c =
    subst IsWellFormed (sym c.in_ok-program.ensures) c.sums_law.ensures.well_formed

pub new-requires-clause-ready : goal.new-requires-clause-ready
new-requires-clause-ready c = subst IsReady (sym c.in_ok-program.ensures) ready
