use Rattle.direct_meaning.proofs.of_script_laws.RuleLemmas.{well-formed}
use Rattle.build_law.proofs.TypedGraphs.{is_typed}
use Rattle.build_law.proofs.laws.types_law.Goals as goal

pub returns-clause-well_formed : goal.returns-clause-well_formed
returns-clause-well_formed c = is_typed

pub returns-clause-accepted : goal.returns-clause-accepted
returns-clause-accepted c statements script short e =
    is_typed script (well-formed statements script e)
