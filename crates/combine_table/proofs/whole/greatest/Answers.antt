use Rattle.std.proofs.Common.{rules}
use Rattle.flume_value.proofs.OrderLemmas.{the_order}
use Rattle.combine_table.proofs.Ends.{greatest_is}
use Rattle.combine_table.proofs.whole.greatest.Goals as goal

pub returns : goal.returns
returns c = greatest_is c.max.result c.args.values.now (search (rules, the_order))
