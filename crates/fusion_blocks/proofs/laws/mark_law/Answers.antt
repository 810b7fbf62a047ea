use Rattle.fusion_blocks.proofs.Blocking.{lead_ok, lead_same, mark_ok, marks_lead}
use Rattle.fusion_blocks.proofs.laws.mark_law.Goals as goal

pub returns-clause-chain : goal.returns-clause-chain
returns-clause-chain c = marks_lead

pub returns-clause-well_formed : goal.returns-clause-well_formed
returns-clause-well_formed c = mark_ok

pub returns-clause-all : goal.returns-clause-all
returns-clause-all c = lead_ok

pub returns-clause-same : goal.returns-clause-same
returns-clause-same c = lead_same
