use Rattle.std.proofs.Common.{◌≡◌, ◌∷◌, rules}
use Rattle.map_shard.specs.inner.Legs.{count_with, each_with}
use Rattle.map_shard.proofs.Legging.{with_next}
use Rattle.map_shard.proofs.joining.join_counts.Goals as goal

pub loop-count-preserved : goal.loop-count-preserved
loop-count-preserved c =
    let at = c.loop-count in
    let left : at.count-iterator.rest.items ≡ c.in-Some.count ∷ c.next.new.self.rest.items =
    search rules in
    with_next count_with at.all.items c.push.new.self.items c.in-Some.count c.count_with.result
    c.next_of.result c.next.new.self.rest.items at.count-iterator.rest.items
    at.others.rest.items c.next_of.new.counts.rest.items
    (each_with count_with c.args.counts.items c.args.more.items) left c.next_of.ensures.next
    c.next_of.ensures.rest c.count_with.ensures c.in_ok-push.ensures.items at.invariant
