use Rattle.script_functions.proofs.Fitting.{world_typed}
use Rattle.script_functions.proofs.laws.world_law.Goals as goal

pub returns : goal.returns
returns c = world_typed
