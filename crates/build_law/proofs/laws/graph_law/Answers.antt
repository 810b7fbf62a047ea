use Rattle.direct_meaning.proofs.of_script_laws.RuleLemmas.{well-formed}
use Rattle.build_law.proofs.Accepting.{accepted_kept}
use Rattle.build_law.proofs.WellFormed.{is_graph_ok}
use Rattle.build_law.proofs.laws.graph_law.Goals as goal

pub returns-clause-well_formed : goal.returns-clause-well_formed
returns-clause-well_formed c = is_graph_ok

pub returns-clause-accepted : goal.returns-clause-accepted
returns-clause-accepted c statements script short e =
    is_graph_ok script (well-formed statements script e)
    (accepted_kept statements script short e).short
