use Rattle.std.proofs.Common.{◌≡◌, ◌++◌, drop}
use Rattle.std.specs.Prelude.{map}
use Rattle.graph_build.specs.Graphs.{place_at_number}
use Rattle.graph_build.proofs.places.places_in.Given as goal

abbrev pub invariant-loop-source : goal.invariant-loop-source
invariant-loop-source l =
    l.inputs ++ map (place_at_number l.places) (drop l.source-index l.sources)
    ≡ map (place_at_number l.places) l.sources
