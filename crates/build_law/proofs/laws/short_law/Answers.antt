use Rattle.build_law.proofs.Short.{accepted_short}
use Rattle.build_law.proofs.laws.short_law.Goals as goal

pub returns : goal.returns
returns c = accepted_short
