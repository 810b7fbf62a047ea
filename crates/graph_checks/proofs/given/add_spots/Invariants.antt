use Rattle.std.specs.Prelude.{nat_eq}
use Rattle.std.proofs.Common.{◌≡◌, ◌||◌, ◌<◌, ◌^◌, drop}
use Rattle.std.specs.List.{list_any}
use Rattle.std.specs.HashSet.{contains}
use Rattle.exec_graph.specs.Places.{code}
use Rattle.graph_checks.specs.inner.Numbers.{spot_place}
use Rattle.exec_graph.specs.declared.graph.Place.{Place}
use Rattle.graph_checks.proofs.given.add_spots.Given as goal

abbrev pub invariant-loop-spot : goal.invariant-loop-spot
invariant-loop-spot l = (d : Place) → d.out < 2 ^ 32
    → (contains nat_eq l.places (code d) || list_any (spot_place l.node d)
    (drop l.spot-index l.spots)) ≡ (contains nat_eq l.fn.places (code d)
    || list_any (spot_place l.node d) l.spots)
