use Rattle.direct_meaning.proofs.of_script_laws.RuleLemmas.{well-formed}
use Rattle.build_law.proofs.Accepting.{accepted_kept}
use Rattle.build_law.proofs.Meanings.{is_meaning}
use Rattle.build_law.proofs.laws.means_law.Goals as goal

pub returns-clause-well_formed : goal.returns-clause-well_formed
returns-clause-well_formed c = is_meaning

pub returns-clause-accepted : goal.returns-clause-accepted
returns-clause-accepted c statements script inputs made short e means =
    let kept = accepted_kept statements script short e in
    is_meaning script inputs made (well-formed statements script e) kept.short means
