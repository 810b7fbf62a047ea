use Rattle.pardo_fuse.proofs.Parentage.{forest_is}
use Rattle.pardo_fuse.proofs.laws.parent_law.Goals as goal

pub returns : goal.returns
returns c = forest_is
