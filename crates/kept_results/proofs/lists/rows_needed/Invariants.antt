use Rattle.std.proofs.Common.{◌≡◌, ◌++◌, drop, map}
use Rattle.std.specs.Vec.Iter.{into_iter_items}
use Rattle.saved_meaning.specs.Found.{marked_ones, needs_input}
use Rattle.kept_results.proofs.lists.rows_needed.Given as goal

abbrev pub invariant-loop-number : goal.invariant-loop-number
invariant-loop-number l =
    let needed = needs_input l.later.script in
    l.lists.items
    ++ marked_ones (map needed (drop l.number-index l.inputs)) (into_iter_items l.rows)
    ≡ marked_ones (map needed l.inputs) l.fn.rows
