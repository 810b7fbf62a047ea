use Rattle.partial_tables.proofs.Adding.{room_left}
use Rattle.partial_tables.proofs.merge.merge_in_copy.Goals as goal

pub into_memory-requires : goal.into_memory-requires
into_memory-requires c =
    room_left c.args.table.now c.args.partial.now.0 c.in_ok-acc.acc c.add_copy.new.self
    c.in-Err.fault c.in-Err.ensures.refused c.requires.room
