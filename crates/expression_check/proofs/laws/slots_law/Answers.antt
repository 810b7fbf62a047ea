use Rattle.expression_check.proofs.RightLemmas.{right}
use Rattle.expression_check.proofs.laws.slots_law.Goals as goal

pub returns : goal.returns
returns c line e s = right line e s
