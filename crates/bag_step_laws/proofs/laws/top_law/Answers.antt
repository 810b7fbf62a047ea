use Rattle.bag_step_laws.proofs.Tops.{listed-top, top-traps}
use Rattle.bag_step_laws.proofs.laws.top_law.Goals as goal

pub returns-clause-members : goal.returns-clause-members
returns-clause-members c = listed-top

pub returns-clause-through : goal.returns-clause-through
returns-clause-through c = top-traps
