use Rattle.std.proofs.Common.{List, ap, ap₂, sym, subst, ◌∙◌}
use Rattle.exec_graph.specs.Forests.{Bare}
use Rattle.exec_graph.specs.Meaning.{node_at}
use Rattle.exec_graph.specs.Wellformed.{Ascends}
use Rattle.exec_graph.specs.declared.graph.Entry.{Entry}
use Rattle.exec_graph.specs.declared.graph.Node.{Node}
use Rattle.exec_graph.specs.declared.graph.Node.TheVariants.{Pdo}
use Rattle.flatten_sink.proofs.Standing.{ascends_with}
use Rattle.flatten_sink.specs.of_sink_laws.Chain.{forest_of}
use Rattle.graph_laws.specs.Joining.{set_node, without}
use Rattle.graph_laws.proofs.Setting.{node_set}
use Rattle.graph_joining.proofs.Commuting.{without_one}
use Rattle.graph_joining.specs.inner.Refits.{graph_of}
use Rattle.graph_joining.proofs.refits.take_apart.Goals as goal

pub replaced-near-requires : goal.replaced-near-requires
replaced-near-requires c = subst Ascends (sym c.into_vec.ensures) c.requires.ascends

pub replaced-far-requires : goal.replaced-far-requires
replaced-far-requires c =
    subst Ascends (sym c.replaced-near.ensures.nodes)
    (ascends_with _ c.args.by.keeper _ (subst Ascends (sym c.into_vec.ensures) c.requires.ascends))

pub without_node-left-requires : goal.without_node-left-requires
without_node-left-requires c =
    subst Ascends (sym c.replaced-far.ensures.nodes)
    (ascends_with _ c.args.by.other _ (subst Ascends (sym c.replaced-near.ensures.nodes)
    (ascends_with _ c.args.by.keeper _ (subst Ascends (sym c.into_vec.ensures)
    c.requires.ascends))))

pub returns-clause-graph : goal.returns-clause-graph
returns-clause-graph c =
    let g = c.args.graph in
    let by = c.args.by in
    let set = λ (es : List Entry) (x y : Node). set_node (set_node es by.keeper x) by.other y in
    ap (λ (es : List Entry). graph_of es g.outputs g.next)
    (c.from_vec.ensures ∙ c.without_node-left.ensures
    ∙ ap₂ (λ (es : List Entry) n. without es n)
    (c.replaced-far.ensures.nodes
    ∙ ap (λ (es : List Entry). set_node es by.other c.bare_pdo-2.result)
    (c.replaced-near.ensures.nodes
    ∙ ap (λ (es : List Entry). set_node es by.keeper c.bare_pdo.result) c.into_vec.ensures)
    ∙ ap₂ (λ (x y : Node). set g.nodes x y) c.bare_pdo.ensures c.bare_pdo-2.ensures)
    c.gone.ensures
    ∙ without_one g.nodes by.keeper by.other by.number (Pdo c.args.input Bare) c.requires.differ
    c.requires.number)

pub returns-clause-near : goal.returns-clause-near
returns-clause-near c =
    c.replaced-near.ensures.steps
    ∙ ap (λ (es : List Entry). forest_of (node_at es c.args.by.keeper)) c.into_vec.ensures

pub returns-clause-far : goal.returns-clause-far
returns-clause-far c =
    let by = c.args.by in
    c.replaced-far.ensures.steps
    ∙ ap (λ (es : List Entry). forest_of (node_at es by.other)) c.replaced-near.ensures.nodes
    ∙ ap forest_of (node_set _ by.keeper by.other _ (λ e. c.requires.differ (sym e)))
    ∙ ap (λ (es : List Entry). forest_of (node_at es by.other)) c.into_vec.ensures
