use Rattle.std.proofs.Common.{◌≡◌, sym, subst, ◌∙◌}
use Rattle.exec_graph.specs.Wellformed.{Ascends}
use Rattle.exec_graph.specs.declared.graph.Graph.{Graph}
use Rattle.graph_joins.specs.Counts.{HasCounts}
use Rattle.graph_joins.specs.Lists.{HasLists}
use Rattle.graph_joins.specs.Present.{present}
use Rattle.graph_joins.proofs.Keeping.{begun, begun_same, named_ascends}
use Rattle.graph_joins.proofs.PresentLemmas.{present_named}
use Rattle.graph_joins.proofs.session.begin.Goals as goal

pub new-requires-clause-ascends : goal.new-requires-clause-ascends
new-requires-clause-ascends c =
    subst (λ (h : Graph). Ascends h.nodes) (sym c.in_ok-under.ensures)
    (named_ascends c.args.graph c.requires)

pub new-requires-clause-present : goal.new-requires-clause-present
new-requires-clause-present c =
    let g = c.args.graph in
    subst (λ (h : Graph). present h.nodes ≡ h.nodes) (sym c.in_ok-under.ensures)
    (present_named g g.nodes g.nodes g.next c.requires.nodes)

pub returns-clause-session : goal.returns-clause-session
returns-clause-session c =
    begun c.args.graph _ c.requires (c.new.ensures ∙ c.in_ok-under.ensures)
    (subst (λ (h : Graph). HasCounts c.in_ok-tables.tables.counts h) (sym c.new.ensures)
    c.in_ok-tables.ensures.counts)
    (subst (λ (h : Graph). HasLists c.in_ok-tables.tables.lists h.nodes) (sym c.new.ensures)
    c.in_ok-tables.ensures.lists)

pub returns-clause-same : goal.returns-clause-same
returns-clause-same c =
    begun_same c.args.graph _ c.requires (c.new.ensures ∙ c.in_ok-under.ensures)
