use Rattle.std.proofs.Common.{map, take}
use Rattle.outside.specs.Saves.{HasFiles, output_file}
use Rattle.outside.proofs.saves.save_all.Given as goal

-- the outputs so far are whole and ended
abbrev pub invariant-loop-k : goal.invariant-loop-k
invariant-loop-k g l =
    HasFiles (map output_file (take l.k l.outputs)) (g.K.Shelf.seen l.fn.shelf)
    (g.K.Shelf.seen l.shelf)
