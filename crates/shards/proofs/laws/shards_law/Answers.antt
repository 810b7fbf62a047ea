use Rattle.shards.proofs.Joined.{shards_join}
use Rattle.shards.proofs.laws.shards_law.Goals as goal

pub returns : goal.returns
returns c shards xs some = shards_join shards xs some
