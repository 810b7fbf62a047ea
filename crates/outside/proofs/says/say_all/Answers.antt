use Rattle.outside.proofs.SaidLemmas.{cut_at}
use Rattle.outside.proofs.says.say_all.Goals as goal

pub returns-in_err-say : goal.returns-in_err-say
returns-in_err-say g c =
    cut_at (λ piece. piece.now) c.args.pieces.now c.loop-piece.piece-index _ _ _ _ _ _
    c.from_residual.result
    c.loop-piece-test.true c.from_residual.ensures.0 c.loop-piece.invariant c.in_err-say.ensures
