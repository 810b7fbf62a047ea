use Rattle.std.proofs.Common.{◌≡◌, drop}
use Rattle.std.specs.List.{list_all}
use Rattle.graph_checks.specs.inner.Checks.{forest_ok}
use Rattle.exec_graph.specs.declared.graph.Entry.{Entry}
use Rattle.graph_checks.proofs.forests.are_forests_ok.Given as goal

abbrev pub invariant-loop-e : goal.invariant-loop-e
invariant-loop-e l =
    list_all (λ (e : Entry). forest_ok l.graph e.number e.node) (drop l.e-index l.e-items)
    ≡ list_all (λ (e : Entry). forest_ok l.graph e.number e.node) l.graph.nodes
