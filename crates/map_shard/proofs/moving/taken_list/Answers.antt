use Rattle.map_shard.proofs.Later.{others_taken}
use Rattle.map_shard.proofs.moving.taken_list.Goals as goal

pub returns-then-is_last-clause-others : goal.returns-then-is_last-clause-others
returns-then-is_last-clause-others c other apart =
    others_taken c.args.m c.args.take.out c.args.lists.now.items c.take_at.new.lists.items
    c.take_at.ensures.others other (apart c.if-is_last.true)
