use Rattle.flume_types.proofs.DepthLemmas.{depth_of-step}
use Rattle.flume_types.proofs.deep.depth_law.Goals as goal

pub returns : goal.returns
returns c = record { one_level = depth_of-step }
