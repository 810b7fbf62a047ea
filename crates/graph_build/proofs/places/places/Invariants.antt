use Rattle.std.proofs.Common.{◌≡◌, ◌++◌, drop}
use Rattle.graph_build.specs.Graphs.{places, places_from}
use Rattle.graph_build.specs.Wanted.{wanted}
use Rattle.graph_build.proofs.places.places.Given as goal

abbrev pub invariant-loop-number : goal.invariant-loop-number
invariant-loop-number l =
    l.places.items
    ++ places_from l.program.script l.giving.items l.number
    (drop l.number (wanted l.program.script))
    ≡ places_from l.program.script l.giving.items 0 (wanted l.program.script)
