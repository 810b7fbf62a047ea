use Rattle.std.specs.Prelude.{nat_eq}
use Rattle.std.proofs.Common.{◌≤◌, List, refl, sym, subst}
use Rattle.std.specs.HashMap.{get}
use Rattle.exec_graph.specs.Wellformed.{most_nodes, total_size}
use Rattle.exec_graph.specs.declared.graph.Entry.{Entry}
use Rattle.flatten_sink.proofs.KnownEnds.{ends_found}
use Rattle.flatten_sink.proofs.sinking.merged_anew.Goals as goal

pub total_size-requires : goal.total_size-requires
total_size-requires c =
    subst (λ (es : List Entry). total_size es ≤ most_nodes) (sym c.as_slice-nodes.ensures)
    c.in_ok-graph.ensures.reached.kept.good.ok.few

pub returns-clause-ends : goal.returns-clause-ends
returns-clause-ends c =
    ends_found c.in_ok-graph.graph c.as_slice-nodes.result.now c.in_ok-graph.graph.next
    (get nat_eq c.in_ok-ends.ends) c.as_slice-nodes.ensures refl c.in_ok-ends.ensures
