use Rattle.std.proofs.Common.{◌≡◌, drop}
use Rattle.std.specs.List.{list_all}
use Rattle.graph_checks.specs.inner.Checks.{flatten_ok}
use Rattle.exec_graph.specs.declared.graph.Entry.{Entry}
use Rattle.graph_checks.proofs.sizes.are_flattens_ok.Given as goal

abbrev pub invariant-loop-e : goal.invariant-loop-e
invariant-loop-e l = list_all (λ (e : Entry). flatten_ok e.node) (drop l.e-index l.nodes)
    ≡ list_all (λ (e : Entry). flatten_ok e.node) l.nodes
