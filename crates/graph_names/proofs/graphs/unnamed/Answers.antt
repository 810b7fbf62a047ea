use Rattle.std.proofs.Common.{ap, ◌∙◌}
use Rattle.exec_graph.specs.declared.graph.Graph.{Graph}
use Rattle.exec_graph.specs.declared.graph.Place.{Place}
use Rattle.graph_names.specs.inner.Moves.{place_in}
use Rattle.graph_names.specs.inner.Nodes.{moved_by}
use Rattle.graph_names.proofs.GraphLemmas.{unnamed_moved}
use Rattle.graph_names.proofs.graphs.unnamed.Goals as goal

pub returns : goal.returns
returns c =
    let x = c.in_ok-under.field-0 in
    let r : Place → Place = place_in x.places in
    c.in_ok-moved.ensures
    ∙ ap (λ (y : Graph). moved_by r y) c.in_ok-under.ensures.graph
    ∙ unnamed_moved c.args.graph r c.in_ok-under.ensures.places
