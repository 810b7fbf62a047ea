use Rattle.std.proofs.Common.{ap, rules}
use Rattle.std.proofs.lemmas.Fn.{always_returns_same}
use Rattle.std.proofs.lemmas.List.MinMax.{ranks_by}
use Rattle.std.specs.Ordering.{is_lt}
use Rattle.indexmap.proofs.MapLemmas.{sorted_keys}
use Rattle.flume_value.specs.Order.{value_cmp}
use Rattle.flume_value.proofs.OrderLemmas.{value_cmp-total}
use Rattle.partial_tables.proofs.entries.sort_by_keys.Goals as goal

pub returns-clause-ascending : goal.returns-clause-ascending
returns-clause-ascending c =
    sorted_keys (λ a b. is_lt (value_cmp a b)) _
    (c.sort_unstable_by.ensures.sorted (λ a b. is_lt (value_cmp a.0 b.0))
    (ranks_by value_cmp-total (λ e. e.0))
    (always_returns_same _ _ _ (λ a r f' k. (ap is_lt k.met, search rules))))
