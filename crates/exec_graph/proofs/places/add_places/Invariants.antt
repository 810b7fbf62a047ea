use Rattle.std.specs.Prelude.{nat_eq}
use Rattle.std.proofs.Common.{◌≡◌, ◌||◌, ◌<◌, ◌^◌, drop}
use Rattle.std.specs.HashSet.{contains}
use Rattle.exec_graph.specs.Places.{code}
use Rattle.exec_graph.specs.Readers.{among}
use Rattle.exec_graph.specs.declared.graph.Place.{Place}
use Rattle.exec_graph.proofs.places.add_places.Given as goal

abbrev pub invariant-loop-c : goal.invariant-loop-c
invariant-loop-c l = (d : Place) → d.out < 2 ^ 32
    → (contains nat_eq l.places (code d) || among d (drop l.c-index l.cs))
    ≡ (contains nat_eq l.fn.places (code d) || among d l.cs)
