use Rattle.std.proofs.Common.{[], ap, arith}
use Rattle.claim_board.specs.inner.Seats.{Seated}
use Rattle.claim_board.proofs.Seating.{makes_as}
use Rattle.claim_board.proofs.seats.make_passes.Goals as goal

pub split_seat-seat-requires : goal.split_seat-seat-requires
split_seat-seat-requires c =
    let i = c.loop-made.invariant in (
      i.table,
      c.requires.table.2,
      makes_as c.args.words.now.key c.loop-made._made [] _ _ i.first
          (ap (λ (m : Seated). m.0) i.view) (omega arith),
    )
