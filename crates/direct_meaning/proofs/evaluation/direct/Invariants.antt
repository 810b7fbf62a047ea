use Rattle.std.specs.Vec.Iter.{into_iter_items}
use Rattle.direct_meaning.specs.inner.Stands.{Stands}
use Rattle.direct_meaning.proofs.evaluation.direct.Given as goal

abbrev pub invariant-loop-number : goal.invariant-loop-number
invariant-loop-number l =
    Stands l.program.script l.fn.inputs l.number (into_iter_items l.rows) l.table.items
    l.traps.items
