use Rattle.bag_step_laws.proofs.Sides.{split-marked}
use Rattle.bag_step_laws.proofs.laws.join_law.Goals as goal

pub returns : goal.returns
returns c = record { rows = split-marked }
