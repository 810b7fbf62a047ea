use Rattle.std.specs.Prelude.{nat_eq}
use Rattle.std.specs.HashMap.{get}
use Rattle.std.proofs.Common.{◌≡◌, ◌<◌, ◌^◌, drop}
use Rattle.exec_graph.specs.Places.{code}
use Rattle.exec_graph.specs.declared.graph.Place.{Place}
use Rattle.graph_tracing.specs.inner.Callers.{first_caller, or_else}
use Rattle.graph_tracing.proofs.callers.firsts_of.Given as goal

abbrev pub invariant-loop-entry : goal.invariant-loop-entry
invariant-loop-entry l = (c : Place) → c.out < 2 ^ 32
    → or_else (get nat_eq l.firsts (code c)) (first_caller c (drop l.entry-index l.nodes))
    ≡ first_caller c l.nodes
