use Rattle.std.proofs.Common.{rules, ◌≡◌}
use Rattle.flume_value.proofs.OrderLemmas.{derived_cmp-is}
use Rattle.flume_value.proofs.ReferenceLemmas.{referred, referred-sorted}
use Rattle.flume_value.proofs.bag.ascending.Goals as goal

pub returns : goal.returns
returns c =
    let collected : referred c.in_ok-all.all.items ≡ c.args.values.now = search rules in
    referred-sorted _ derived_cmp-is c.args.values.now c.in_ok-all.all.items
    c.sort_unstable.new.self.items collected
    c.sort_unstable.ensures.permutation c.sort_unstable.ensures.sorted
