use Rattle.std.specs.Prelude.{nat_eq}
use Rattle.std.proofs.Common.{◌≡◌, ◌||◌, ◌<◌, ◌^◌, drop}
use Rattle.std.specs.HashSet.{contains}
use Rattle.exec_graph.specs.Places.{code}
use Rattle.graph_checks.specs.inner.Numbers.{is_given}
use Rattle.exec_graph.specs.declared.graph.Place.{Place}
use Rattle.graph_checks.proofs.given.given_places.Given as goal

abbrev pub invariant-loop-e : goal.invariant-loop-e
invariant-loop-e l = (d : Place) → d.out < 2 ^ 32
    → (contains nat_eq l.places (code d) || is_given (drop l.e-index l.nodes) d)
    ≡ is_given l.nodes d
