use Rattle.std.proofs.Common.{List, map, sym, ap, subst, ◌∙◌}
use Rattle.exec_graph.specs.declared.graph.Entry.{Entry}
use Rattle.sink_laws.specs.of_graph_laws.Joining.{reread_entry}
use Rattle.sink_laws.specs.Sinking.{rerouted}
use Rattle.flatten_sink.specs.inner.Ends.{AreBelow}
use Rattle.flatten_sink.specs.inner.Places.{IsFirstFrom}
use Rattle.flatten_sink.proofs.Prefix.{all_rerouted}
use Rattle.flatten_sink.proofs.rerouting.rerouted_nodes.Goals as goal

pub returns : goal.returns
returns c =
    let es : List Entry = c.into_vec-all.result.items in
    let below : AreBelow c.args.pdo c.args.end es =
    subst (AreBelow c.args.pdo c.args.end) (sym c.into_vec-all.ensures) c.requires.end in
    let first : IsFirstFrom es c.args.end c.first_from-count.result =
    subst (λ (l : List Entry). IsFirstFrom l c.args.end c.first_from-count.result)
    c.as_slice.ensures.value c.first_from-count.ensures in
    c.from_vec.ensures ∙ c.in_ok-reroute_front.ensures
    ∙ all_rerouted es c.args.pdo c.args.base c.args.end c.first_from-count.result below first
    ∙ ap (map (reread_entry (rerouted c.args.pdo c.args.base))) c.into_vec-all.ensures
