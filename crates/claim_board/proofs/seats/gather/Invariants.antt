use Rattle.std.proofs.Common.{◌≡◌, [], ◌++◌}
use Rattle.claim_board.specs.Seats.{maker_view}
use Rattle.claim_board.specs.inner.Seats.{board_of}
use Rattle.claim_board.specs.Boards.{states_of, AreOfBoard}
use Rattle.claim_board.proofs.seats.gather.Given as goal

abbrev pub invariant-loop-pass : goal.invariant-loop-pass
invariant-loop-pass l = record {
  table : l.maker.table_id ≡ l.words.table_id;
  first : l.maker.id ≡ 0;
  view : l.maker.me ≡ (maker_view l.words.key l.initial.maker.me.0.made l.maker.me.0.passes, []);
  all : states_of l.members.items ++ l.maker.me.0.passes ≡ states_of l.initial.members.items;
  members : AreOfBoard (board_of l.words.table_id l.words.key) l.members.items;
}

abbrev pub decreases-loop-pass : goal.decreases-loop-pass
decreases-loop-pass l = goal.left-loop-pass l
