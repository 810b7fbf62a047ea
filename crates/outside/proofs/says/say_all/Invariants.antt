use Rattle.std.proofs.Common.{Ok, take}
use Rattle.std.specs.List.{flat_map}
use Rattle.outside.specs.Says.{Says}
use Rattle.outside.specs.declared.source.Failed.{Failed}
use Rattle.outside.proofs.says.say_all.Given as goal

-- the pieces so far are said
abbrev pub invariant-loop-piece : goal.invariant-loop-piece
invariant-loop-piece g l =
    Says {T = Unit {0}} {E = Failed} (flat_map (λ piece. piece.now) (take l.piece-index l.pieces))
    (g.P.Screen.seen l.fn.screen) (g.P.Screen.seen l.screen) (Ok tt)
