use Rattle.std.proofs.Common.{◌≡◌, []}
use Rattle.claim_board.specs.Seats.{maker_view}
use Rattle.claim_board.specs.inner.Seats.{board_of}
use Rattle.claim_board.specs.Boards.{fresh_passes}
use Rattle.claim_board.proofs.seats.make_passes.Given as goal

abbrev pub invariant-loop-made : goal.invariant-loop-made
invariant-loop-made l = record {
  table : l.maker.table_id ≡ l.words.table_id;
  first : l.maker.id ≡ 0;
  view : l.maker.me ≡ (maker_view l.words.key l._made [], []);
  made : l.members.items ≡ fresh_passes (board_of l.words.table_id l.words.key) l._made;
}
