use Rattle.std.proofs.Common.{Bool, List, cond, ap, ◌∙◌}
use Rattle.exec_graph.specs.Meaning.{node_at, place}
use Rattle.exec_graph.specs.declared.graph.Entry.{Entry}
use Rattle.exec_graph.specs.declared.graph.Graph.{Graph}
use Rattle.exec_graph.specs.declared.graph.Place.{Place}
use Rattle.pardo_fuse.specs.Parting.{part_number}
use Rattle.pardo_fuse.specs.Readers.{is_pdo}
use Rattle.graph_names.specs.inner.Moves.{place_under}
use Rattle.graph_names.specs.inner.Nodes.{moved_by}
use Rattle.graph_names.proofs.GraphLemmas.{named_moved}
use Rattle.graph_names.proofs.graphs.named.Goals as goal

pub returns : goal.returns
returns c =
    let g = c.args.graph in
    let r : Place → Place = place_under c.in_ok-pdos.pdos g.next in
    c.in_ok-moved.ensures
    ∙ ap (λ (x : Graph). moved_by r x) c.in_ok-under.ensures
    ∙ named_moved g r
    (λ d. ap (λ (b : Bool). cond b (place (part_number g.next d.node d.out) 0) d)
    (c.in_ok-pdos.ensures d.node
    ∙ ap (λ (es : List Entry). is_pdo (node_at es d.node)) c.as_slice.ensures))
