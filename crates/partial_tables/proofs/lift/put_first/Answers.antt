use Rattle.std.proofs.Common.{◌<◌, ℕ, arith, length, subst, sym}
use Rattle.partial_tables.specs.Tables.{Pairs}
use Rattle.partial_tables.proofs.Adding.{room_left}
use Rattle.partial_tables.proofs.lift.put_first.Goals as goal

pub into_memory-requires : goal.into_memory-requires
into_memory-requires c =
    room_left c.args.table.now c.args.key c.args.acc c.add.new.self c.in-Err.fault
    c.in-Err.ensures.refused
    (subst (λ (ps : Pairs). length ps < c.args.table.now.room) (sym c.requires.none)
    (subst (λ (n : ℕ). 0 < n) (sym c.requires.room) (omega arith)))
