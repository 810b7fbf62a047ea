use Rattle.std.proofs.Common.{subst, sym}
use Rattle.build_law.proofs.of_script_laws.SavedLemmas.{saved-well}
use Rattle.build_law.specs.of_script_laws.WellFormed.{IsWellFormed}
use Rattle.script_loading.specs.Ready.{IsReady}
use Rattle.script_loading.proofs.ReadyLemmas.{saved_ready}
use Rattle.script_loading.proofs.ready.ReadyProgram.with_saved.Goals as goal

pub invariant_of-result : goal.invariant_of-result
invariant_of-result c =
    let script = c.self.inside.program.script in
    let is = sym c.with_saved-later.ensures.script in (
      subst IsWellFormed is (saved-well script c.self.invariant.0 c.args.found.now),
      subst IsReady is (saved_ready script c.args.found.now c.self.invariant.1),
    )
