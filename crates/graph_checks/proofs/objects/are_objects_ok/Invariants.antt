use Rattle.std.proofs.Common.{◌≡◌, drop}
use Rattle.std.specs.List.{list_all}
use Rattle.graph_checks.specs.inner.Objects.{objects_in}
use Rattle.exec_graph.specs.declared.graph.Entry.{Entry}
use Rattle.graph_checks.proofs.objects.are_objects_ok.Given as goal

abbrev pub invariant-loop-e : goal.invariant-loop-e
invariant-loop-e l =
    list_all (λ (e : Entry). objects_in l.nodes e.node) (drop l.e-index l.nodes)
    ≡ list_all (λ (e : Entry). objects_in l.nodes e.node) l.nodes
