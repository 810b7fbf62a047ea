use Rattle.std.proofs.Common.{◌≡◌, ◌++◌, map, take, drop}
use Rattle.pardo_fuse.specs.Renumbering.{renumbered_entry}
use Rattle.pardo_fuse.specs.inner.Numbers.{number_in}
use Rattle.pardo_fuse.proofs.renumbering.nodes_under.Given as goal

abbrev pub invariant-loop-entry : goal.invariant-loop-entry
invariant-loop-entry l =
    take l.entry-index l.entry-items
    ++ map (renumbered_entry (number_in l.numbers)) (drop l.entry-index l.entry-items)
    ≡ map (renumbered_entry (number_in l.numbers)) l.initial.entry-items
