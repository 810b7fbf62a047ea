use Rattle.made_rows.proofs.Checked.{well_formed}
use Rattle.made_rows.proofs.Meanings.{means_sums}
use Rattle.made_rows.proofs.laws.sums_law.Goals as goal

pub returns-clause-well_formed : goal.returns-clause-well_formed
returns-clause-well_formed c = well_formed

pub returns-clause-means : goal.returns-clause-means
returns-clause-means c = means_sums
