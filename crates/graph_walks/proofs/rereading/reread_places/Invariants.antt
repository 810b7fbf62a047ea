use Rattle.std.proofs.Common.{◌≡◌, ◌++◌, map, take, drop}
use Rattle.graph_walks.proofs.rereading.reread_places.Given as goal

abbrev pub invariant-loop-c : goal.invariant-loop-c
invariant-loop-c g l =
    take l.c-index l.c-items ++ map (g.M.Moves.moved l.by) (drop l.c-index l.c-items)
    ≡ map (g.M.Moves.moved l.by) l.initial.c-items
