use Rattle.std.proofs.Common.{◌≡◌, ◌++◌}
use Rattle.outside.specs.inner.Pieces.{together}
use Rattle.outside.proofs.pieces.with_all.Given as goal

-- the bytes so far, and those of the pieces to come, are all
abbrev pub invariant-loop-piece : goal.invariant-loop-piece
invariant-loop-piece l = l.all.items ++ together l.piece-iterator.rest.items
    ≡ l.fn.first ++ together l.fn.rest.rest.items
