use Rattle.std.proofs.Common.{rules}
use Rattle.flume_value.proofs.NumberLemmas.{small_from, small-take}
use Rattle.flume_value.proofs.numbers.first_eight.Goals as goal

pub returns-clause-small : goal.returns-clause-small
returns-clause-small c = small-take 8 c.args.b.now (small_from c.args.b.now (search rules))
