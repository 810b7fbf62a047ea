use Rattle.direct_meaning.proofs.MeaningLemmas.{has_meaning}
use Rattle.script_laws.proofs.RuleLemmas.{well-formed}
use Rattle.direct_meaning.proofs.laws.meaning_law.Goals as goal

pub returns-clause-well_formed : goal.returns-clause-well_formed
returns-clause-well_formed c script inputs well are =
    let it = has_meaning script well inputs are in (it.made, it.means, it.are)

pub returns-clause-accepted : goal.returns-clause-accepted
returns-clause-accepted c statements script inputs accepted are =
    let it = has_meaning script (well-formed statements script accepted) inputs are in
    (it.made, it.means, it.are)
