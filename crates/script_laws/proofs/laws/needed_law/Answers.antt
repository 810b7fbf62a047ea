use Rattle.script_laws.proofs.NeededLemmas.{needed_law}
use Rattle.script_laws.proofs.laws.needed_law.Goals as goal

pub returns : goal.returns
returns c = needed_law
