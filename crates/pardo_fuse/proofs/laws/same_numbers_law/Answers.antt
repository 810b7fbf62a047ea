use Rattle.pardo_fuse.proofs.Fused.{later_same}
use Rattle.pardo_fuse.proofs.laws.same_numbers_law.Goals as goal

pub returns : goal.returns
returns c = later_same
