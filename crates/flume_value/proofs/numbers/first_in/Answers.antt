use Rattle.std.proofs.Common.{rules}
use Rattle.flume_value.proofs.NumberLemmas.{small_from}
use Rattle.flume_value.proofs.numbers.first_in.Goals as goal

pub returns-clause-small : goal.returns-clause-small
returns-clause-small c = small_from c.args.bytes.now (search rules)
