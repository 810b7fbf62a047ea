use Rattle.std.proofs.Common.{List, [], ap, sym, subst, ◌∙◌}
use Rattle.exec_graph.specs.Forests.{Bare, Branch, Forest, grown}
use Rattle.exec_graph.specs.Meaning.{node_at}
use Rattle.exec_graph.specs.Wellformed.{Ascends}
use Rattle.exec_graph.specs.declared.graph.Entry.{Entry}
use Rattle.exec_graph.specs.declared.graph.Graph.{Graph}
use Rattle.exec_graph.specs.declared.graph.Node.TheVariants.{Flatten, Pdo}
use Rattle.exec_graph.specs.declared.graph.Place.{Place}
use Rattle.flatten_sink.proofs.Standing.{ascends_with}
use Rattle.flatten_sink.specs.of_sink_laws.Chain.{forest_of}
use Rattle.graph_laws.specs.Joining.{set_node}
use Rattle.graph_laws.proofs.Setting.{node_set}
use Rattle.graph_states.specs.States.{taken_in}
use Rattle.graph_states.specs.of_graph_rewrites.Rewrites.{input_at}
use Rattle.graph_joins.proofs.PresentLemmas.{forest_present, taken_shown}
use Rattle.graph_joins.proofs.TakenLemmas.{still_pdo}
use Rattle.graph_joins.proofs.taking.take_apart.Goals as goal

pub replaced-left-requires : goal.replaced-left-requires
replaced-left-requires c =
    subst Ascends (sym c.replaced-gone.ensures.nodes)
    (ascends_with c.graph.inside.nodes.items c.args.goes _ c.graph.invariant)

pub invariant_of-taken : goal.invariant_of-taken
invariant_of-taken c =
    subst Ascends (sym c.replaced-left.ensures.nodes)
    (ascends_with _ c.args.stays _ (subst Ascends (sym c.replaced-gone.ensures.nodes)
    (ascends_with c.graph.inside.nodes.items c.args.goes _ c.graph.invariant)))

pub returns-clause-graph : goal.returns-clause-graph
returns-clause-graph c =
    let g : Graph = c.args.graph in
    let es : List Entry = c.graph.inside.nodes.items in
    let n = c.args.stays in
    let m = c.args.goes in
    let input : Place = c.input-input.result in
    taken_shown g es c.replaced-left.result.nodes.items c.graph.inside.outputs
    c.graph.inside.next n m input Bare c.graph.view_is c.graph.invariant c.requires.differ
    c.requires.stays c.requires.goes
    (c.replaced-left.ensures.nodes
    ∙ ap (λ (l : List Entry). set_node l n (Pdo input c.new-roots.result))
    (c.replaced-gone.ensures.nodes
    ∙ ap (λ (ps : List Place). set_node es m (Flatten ps)) c.new-none.ensures)
    ∙ ap (λ (f : Forest). set_node (set_node es m (Flatten [])) n (Pdo input f))
    (c.new-roots.ensures ∙ ap (λ (bs : List Branch). grown bs) c.new-empty.ensures.items))
    ∙ ap (λ (d : Place). taken_in g n m d Bare) c.input-input.ensures

pub returns-clause-pdo : goal.returns-clause-pdo
returns-clause-pdo c =
    still_pdo c.args.graph _ c.args.stays c.args.goes (input_at c.args.graph c.args.stays)
    (returns-clause-graph c) c.requires.differ c.requires.stays

pub returns-clause-stays : goal.returns-clause-stays
returns-clause-stays c =
    let es : List Entry = c.graph.inside.nodes.items in
    let n = c.args.stays in
    c.replaced-left.ensures.steps
    ∙ ap (λ (l : List Entry). forest_of (node_at l n)) c.replaced-gone.ensures.nodes
    ∙ ap forest_of (node_set es c.args.goes n _ c.requires.differ)
    ∙ forest_present es c.args.graph.nodes n c.graph.invariant
    (ap (λ (x : Graph). x.nodes) c.graph.view_is)

pub returns-clause-goes : goal.returns-clause-goes
returns-clause-goes c =
    c.replaced-gone.ensures.steps
    ∙ forest_present c.graph.inside.nodes.items c.args.graph.nodes c.args.goes c.graph.invariant
    (ap (λ (x : Graph). x.nodes) c.graph.view_is)
