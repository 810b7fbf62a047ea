use Rattle.std.proofs.Common.{◌∙◌}
use Rattle.flume_value.proofs.OrderLemmas.{derived_cmp-is}
use Rattle.direct_meaning.proofs.RowOrder.{sorted_by_beginnings}
use Rattle.direct_meaning.proofs.sorting.ascending_rows.Goals as goal

pub returns : goal.returns
returns c =
    c.in_ok-all.ensures
    ∙ sorted_by_beginnings _ derived_cmp-is c.args.rows.items c.in_ok-begun.begun.items
    c.sort_unstable.new.self.items c.in_ok-begun.ensures c.sort_unstable.ensures.permutation
    c.sort_unstable.ensures.sorted
