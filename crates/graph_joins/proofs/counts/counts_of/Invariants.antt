use Rattle.std.proofs.Common.{◌≡◌, ◌+◌, ◌<◌, ◌^◌, drop}
use Rattle.exec_graph.specs.declared.graph.Place.{Place}
use Rattle.graph_joins.specs.Counts.{count_at_place, times_in}
use Rattle.graph_joins.proofs.counts.counts_of.Given as goal

abbrev pub invariant-loop-entry : goal.invariant-loop-entry
invariant-loop-entry l = (c : Place) → c.out < 2 ^ 32
    → count_at_place l.counts c + times_in c (drop l.entry-index l.entry-items)
    ≡ times_in c l.entry-items
