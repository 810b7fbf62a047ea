use Rattle.flume_collection.proofs.Together.{passed_together}
use Rattle.flume_collection.proofs.laws.passed_law.Goals as goal

pub returns : goal.returns
returns c = passed_together
