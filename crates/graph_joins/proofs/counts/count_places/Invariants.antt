use Rattle.std.proofs.Common.{◌≡◌, ◌+◌, ◌<◌, ◌^◌, drop}
use Rattle.exec_graph.specs.declared.graph.Place.{Place}
use Rattle.graph_joins.specs.Counts.{count_at_place, times_read}
use Rattle.graph_joins.proofs.counts.count_places.Given as goal

abbrev pub invariant-loop-c : goal.invariant-loop-c
invariant-loop-c l = (d : Place) → d.out < 2 ^ 32
    → count_at_place l.counts d + times_read d (drop l.c-index l.places)
    ≡ count_at_place l.fn.counts d + times_read d l.places
