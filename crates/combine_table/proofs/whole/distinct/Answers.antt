use Rattle.std.proofs.Common.{◌∙◌}
use Rattle.std.proofs.lemmas.List.Filters.{dedup_is}
use Rattle.std.proofs.lemmas.Result.{IfOk-weaker}
use Rattle.flume_value.specs.contracts.value.ValuePartialEq.TheImpl as equality
use Rattle.flume_value.proofs.OrderLemmas.{derived_eq-is}
use Rattle.combine_table.proofs.Refs.{referred-distinct}
use Rattle.combine_table.proofs.whole.distinct.Goals as goal

pub returns : goal.returns
returns c =
    IfOk-weaker c.copy_each.result _ _
    (λ copied h. h ∙ referred-distinct (equality.ghosts).eq derived_eq-is _
    c.in_ok-all.all.items c.deref.result.now
    c.in_ok-all.ensures
    (c.deref.ensures.value ∙ dedup_is _ _ _ c.dedup.ensures.filtered))
    c.copy_each.ensures
