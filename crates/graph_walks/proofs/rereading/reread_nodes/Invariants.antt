use Rattle.std.proofs.Common.{◌≡◌, ◌++◌, map, take, drop}
use Rattle.graph_laws.specs.Joining.{reread_entry}
use Rattle.graph_walks.proofs.rereading.reread_nodes.Given as goal

abbrev pub invariant-loop-entry : goal.invariant-loop-entry
invariant-loop-entry g l =
    take l.entry-index l.entry-items
    ++ map (reread_entry (g.M.Moves.moved l.by)) (drop l.entry-index l.entry-items)
    ≡ map (reread_entry (g.M.Moves.moved l.by)) l.initial.entry-items
