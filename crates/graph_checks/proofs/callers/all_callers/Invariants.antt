use Rattle.std.specs.Prelude.{nat_eq}
use Rattle.std.proofs.Common.{◌≡◌, ◌<◌, ◌^◌, drop, None}
use Rattle.std.specs.HashMap.{get}
use Rattle.graph_checks.specs.inner.Checks.{callers_from}
use Rattle.exec_graph.specs.Places.{code}
use Rattle.exec_graph.specs.declared.graph.Place.{Place}
use Rattle.graph_checks.proofs.callers.all_callers.Given as goal

abbrev pub invariant-loop-e : goal.invariant-loop-e
invariant-loop-e l = (d : Place) → d.out < 2 ^ 32
    → callers_from (get nat_eq l.callers (code d)) (drop l.e-index l.nodes) d
    ≡ callers_from None l.nodes d
