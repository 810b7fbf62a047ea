use Rattle.reduce_part.proofs.Channels.{groups_first}
use Rattle.reduce_part.proofs.Gathering.{count_is}
use Rattle.reduce_part.proofs.laws.reducing_law.Goals as goal

pub returns-clause-first : goal.returns-clause-first
returns-clause-first c sources before s ok = groups_first s.inputs 0 s.outputs ok.channels

pub returns-clause-count : goal.returns-clause-count
returns-clause-count c lifted outs r p pairs is = count_is lifted outs r p pairs is
