use Rattle.std.proofs.Common.{List, ap, sym, subst, ◌∙◌}
use Rattle.exec_graph.specs.Forests.{Forest, grown}
use Rattle.exec_graph.specs.Wellformed.{Ascends}
use Rattle.exec_graph.specs.declared.graph.Entry.{Entry}
use Rattle.exec_graph.specs.declared.graph.Node.TheVariants.{Pdo}
use Rattle.flatten_sink.proofs.Standing.{ascends_with}
use Rattle.graph_laws.specs.Joining.{set_node}
use Rattle.graph_joins.proofs.PresentLemmas.{set_shown}
use Rattle.graph_joins.proofs.taking.with_steps.Goals as goal

pub invariant_of-result : goal.invariant_of-result
invariant_of-result c =
    subst Ascends (sym c.replaced-changed.ensures.nodes)
    (ascends_with c.graph.inside.nodes.items c.args.number _ c.graph.invariant)

pub returns : goal.returns
returns c =
    let es : List Entry = c.graph.inside.nodes.items in
    let n = c.args.number in
    set_shown c.args.graph es c.replaced-changed.result.nodes.items c.graph.inside.outputs
    c.graph.inside.next n c.args.input (grown c.args.steps.items) c.graph.view_is
    c.graph.invariant c.requires
    (c.replaced-changed.ensures.nodes
    ∙ ap (λ (f : Forest). set_node es n (Pdo c.args.input f)) c.new-roots.ensures)
