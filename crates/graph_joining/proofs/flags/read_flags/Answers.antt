use Rattle.std.proofs.Common.{Bool, List, ◌||◌, map, ap, ◌∙◌}
use Rattle.exec_graph.specs.Meaning.{place}
use Rattle.exec_graph.specs.Readers.{among, any_node, uses}
use Rattle.exec_graph.specs.declared.graph.Entry.{Entry}
use Rattle.exec_graph.specs.declared.graph.Place.{Place}
use Rattle.graph_laws.specs.Joining.{reread_entry}
use Rattle.graph_walks.specs.Outs.{flag}
use Rattle.graph_joining.specs.inner.Apart.{place_by}
use Rattle.graph_joining.proofs.flags.read_flags.Goals as goal

pub returns : goal.returns
returns c = λ j.
    let r : Place → Place = place_by c.args.by in
    let p = place c.args.by.number j in
    c.in_ok-flag_places.ensures j
    ∙ ap (λ (b : Bool). b || among p (map r c.as_slice-2.result.now))
    (c.in_ok-flag_nodes.ensures j
    ∙ ap (λ (bs : List Bool). flag bs j
    || any_node (uses p) (map (reread_entry r) c.as_slice.result.now)) c.new-flags.ensures.items
    ∙ ap (λ (es : List Entry). any_node (uses p) (map (reread_entry r) es)) c.as_slice.ensures)
    ∙ ap (λ (cs : List Place). any_node (uses p) (map (reread_entry r) c.args.graph.now.nodes)
    || among p (map r cs)) c.as_slice-2.ensures
