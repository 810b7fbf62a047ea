use Rattle.fuse_chain.proofs.LeastKids.{kids_to_least}
use Rattle.fuse_chain.proofs.laws.least_law.Goals as goal

pub returns : goal.returns
returns c = kids_to_least
