use Rattle.bag_step_laws.proofs.Wholes.{whole-pair, whole-trap}
use Rattle.bag_step_laws.proofs.laws.whole_law.Goals as goal

pub returns-clause-pair : goal.returns-clause-pair
returns-clause-pair c = whole-pair

pub returns-clause-trap : goal.returns-clause-trap
returns-clause-trap c = whole-trap
