use Rattle.std.proofs.Common.{ap, sym, subst, ◌∙◌}
use Rattle.exec_graph.specs.Wellformed.{Ascends}
use Rattle.exec_graph.specs.declared.graph.Graph.{Graph}
use Rattle.graph_joins.specs.Present.{present}
use Rattle.graph_joins.proofs.graphs.NamedGraph.entries.Goals as goal

pub returns-clause-present : goal.returns-clause-present
returns-clause-present c =
    ap present c.as_slice.ensures.value ∙ ap (λ (g : Graph). g.nodes) c.self.view_is

pub returns-clause-ascends : goal.returns-clause-ascends
returns-clause-ascends c = subst Ascends (sym c.as_slice.ensures.value) c.self.invariant
