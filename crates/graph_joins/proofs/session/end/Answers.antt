use Rattle.std.specs.Prelude.{IfOk}
use Rattle.std.proofs.Common.{◌≡◌, subst}
use Rattle.exec_graph.specs.declared.graph.Graph.{Graph}
use Rattle.graph_states.specs.of_graph_names.Names.{unnamed}
use Rattle.graph_joins.proofs.session.end.Goals as goal

pub returns : goal.returns
returns c =
    subst (λ (h : Graph). IfOk c.unnamed.result (λ g. g ≡ unnamed h)) c.into_graph.ensures
    c.unnamed.ensures
