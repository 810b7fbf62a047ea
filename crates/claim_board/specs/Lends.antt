-- What the passes of a board end as, once a borrow of the members ends.
use Rattle.std.specs.Prelude.{List, length}
use Rattle.std.specs.List.{refill}
use Rattle.std.specs.Borrow.{Lends, Fml, MutBor, Array}
use Rattle.claim_board.specs.Boards.{Pass, Passes}
use Rattle.claim_board.specs.contracts.pass.Pass.{the_row as pass_row}
use Rattle.claim_board.specs.contracts.passes.Passes.{the_row}

-- the same passes with the members ms, which are as many as before: others are cut off,
-- or filled up from before
abbrev pub with_members : Passes → List Pass → Passes
with_members ps ms = record { board = ps.board; members = refill (length ps.members) ps.members ms }

-- the members are those that r shows last
abbrev pub lends_members : MutBor Passes → MutBor (List Pass) → Fml
lends_members ps r = Lends the_row (Array pass_row 0) ps r (with_members ps.now)
