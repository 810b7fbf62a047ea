use Rattle.std.proofs.Common.{◌≡◌, ◌<◌, ℕ, length}
use Rattle.std.specs.Prelude.{slice_index}
use Rattle.std.specs.Mem.Slots.{slots_items}
use Rattle.claim_board.specs.Seats.{task_words}
use Rattle.claim_board.proofs.seats.read_winners.Given as goal

abbrev pub invariant-loop-t : goal.invariant-loop-t
invariant-loop-t l = record {
  size : length l.winners.items ≡ l.tasks;
  same : (k : ℕ) → k < l.t → slice_index l.winners.items k
      ≡ slice_index (task_words (slots_items l.closed.words)) k;
}
