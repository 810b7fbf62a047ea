-- A board's name tells its table, and its size the table's key.
use Rattle.std.proofs.Common.{◌≡◌, ℕ, List, [], ◌∷◌, ap}
use Rattle.atomic_table.specs.Seated.{TableId}
use Rattle.claim_board.specs.declared.size.Size.{Size}
use Rattle.claim_board.specs.Boards.{Board}
use Rattle.claim_board.specs.inner.Seats.{board_of}

abbrev first_of : List ℕ → ℕ
first_of [] = 0
first_of (n ∷ ns) = n

abbrev tail_of : List ℕ → List ℕ
tail_of [] = []
tail_of (n ∷ ns) = ns

abbrev table_of : List ℕ → TableId
table_of a = record {
  words = first_of a;
  slots = first_of (tail_of a);
  views_name = first_of (tail_of (tail_of a));
  atom = first_of (tail_of (tail_of (tail_of a)));
  block = first_of (tail_of (tail_of (tail_of (tail_of a))));
  offset = first_of (tail_of (tail_of (tail_of (tail_of (tail_of a)))));
  slot_names = tail_of (tail_of (tail_of (tail_of (tail_of (tail_of a)))));
}

pub same_table : (y z : TableId) (j k : Size) → board_of y j ≡ board_of z k → y ≡ z
same_table y z j k e = ap (λ (b : Board). table_of b.name) e

pub same_size : (y z : TableId) (j k : Size) → board_of y j ≡ board_of z k → j ≡ k
same_size y z j k e = ap (λ (b : Board). record { tasks = b.tasks; tries = b.tries; crew = b.crew })
    e
