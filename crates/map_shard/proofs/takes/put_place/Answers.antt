use Rattle.std.proofs.Common.{arith}
use Rattle.map_shard.proofs.LastTakes.{filled_up, written}
use Rattle.map_shard.proofs.takes.put_place.Goals as goal

pub returns-then-number-len : goal.returns-then-number-len
returns-then-number-len c n k at apart =
    written c.args.places.now.items c.args.number c.args.place n k (omega arith) at apart

pub returns : goal.returns
returns c n k at apart =
    filled_up c.args.places.now.items c.resize.new.self.items c.args.number c.args.place n k _
    (omega arith) c.in_ok-resize.ensures.items at apart
