use Rattle.std.proofs.Common.{rules}
use Rattle.flume_value.proofs.OrderLemmas.{the_order}
use Rattle.combine_table.proofs.Ends.{least_is}
use Rattle.combine_table.proofs.whole.least.Goals as goal

pub returns : goal.returns
returns c = least_is c.min.result c.args.values.now (search (rules, the_order))
