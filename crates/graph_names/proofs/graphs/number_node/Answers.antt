use Rattle.std.specs.Prelude.{nat_eq}
use Rattle.std.proofs.Common.{Option, ap, ◌∙◌}
use Rattle.std.specs.HashMap.{get}
use Rattle.exec_graph.specs.declared.graph.Place.{Place}
use Rattle.graph_names.specs.inner.Spots.{first_spot}
use Rattle.graph_names.proofs.SpotLemmas.{spot_node}
use Rattle.graph_names.proofs.graphs.number_node.Goals as goal

pub returns-in_ok-note_outs-in-Pdo-clause-places
    : goal.returns-in_ok-note_outs-in-Pdo-clause-places
returns-in_ok-note_outs-in-Pdo-clause-places c = λ n.
    c.in_ok-note_outs-in-Pdo.ensures n
    ∙ ap (λ (o : Option Place). first_spot (get nat_eq c.args.places.now n) o)
    (spot_node c.args.number c.args.node.now _ _ _ n c.in-Pdo.is
    (c.as_slice.ensures.value ∙ c.in_ok-outs-in-Pdo.ensures.outs))
