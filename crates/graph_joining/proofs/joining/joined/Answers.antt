use Rattle.std.proofs.Common.{◌≡◌, ap, ap₂, sym, subst, ◌∙◌}
use Rattle.exec_graph.specs.Forests.{Forest}
use Rattle.exec_graph.specs.Meaning.{OutsDiffer}
use Rattle.exec_graph.specs.Wellformed.{Ascends}
use Rattle.exec_graph.specs.declared.graph.Graph.{Graph}
use Rattle.exec_graph.specs.declared.graph.Place.{Place}
use Rattle.flatten_sink.proofs.Standing.{ascends_with}
use Rattle.flatten_sink.proofs.of_sink_laws.Instead.{ascends_without}
use Rattle.graph_laws.specs.Joining.{without}
use Rattle.graph_laws.specs.Kids.{renewed}
use Rattle.graph_rewrites.specs.Rewrites.{forest_at, input_at}
use Rattle.graph_joining.specs.inner.Apart.{gone_by, place_by}
use Rattle.graph_joining.specs.inner.Joined.{together}
use Rattle.graph_joining.specs.inner.Refits.{parted, refitted_by}
use Rattle.graph_joining.proofs.Steps.{left_at}
use Rattle.graph_joining.proofs.Together.{apart_far}
use Rattle.graph_joining.proofs.joining.joined.Goals as goal

pub take_apart-left-requires-clause-differ : goal.take_apart-left-requires-clause-differ
take_apart-left-requires-clause-differ c = c.requires.stand.differ.apart

pub put_together-requires : goal.put_together-requires
put_together-requires c =
    subst (λ (f : Forest). OutsDiffer f) (sym c.take_apart-left.ensures.near)
    c.requires.stand.outs

pub renewed-requires-clause-ascends : goal.renewed-requires-clause-ascends
renewed-requires-clause-ascends c =
    let es = c.args.graph.nodes in
    let gone = gone_by c.args.by in
    subst (λ (x : Graph). Ascends x.nodes) (sym c.take_apart-left.ensures.graph)
    (ascends_with (without es gone) c.args.by.number _ (ascends_without es gone c.requires.ascends))

pub renewed-requires-clause-here : goal.renewed-requires-clause-here
renewed-requires-clause-here c =
    left_at c.args.graph c.take_apart-left.result.graph c.args.by c.input_in-input.result
    c.requires.stand c.requires.number c.take_apart-left.ensures.graph

pub renewed-requires-clause-stays : goal.renewed-requires-clause-stays
renewed-requires-clause-stays c =
    let by = c.args.by in
    let differ = c.requires.stand.differ in
    subst (λ (d : Place). place_by by d ≡ d) (sym c.input_in-input.ensures)
    (apart_far by.keeper by.other by.number (input_at c.args.graph by.keeper) differ.own
    differ.away)

pub returns : goal.returns
returns c =
    let g = c.args.graph in
    let by = c.args.by in
    let n = by.number in
    let x = c.take_apart-left.ensures in
    let all : Forest = together c.args.manner (forest_at g by.keeper) (forest_at g by.other) in
    c.in_ok-last.ensures
    ∙ ap₂ (λ (h : Graph) (f : Forest). renewed (refitted_by (place_by by) h n
    c.input_in-input.result f) n c.input_in-input.result f) x.graph
    (c.in_ok-steps.ensures ∙ ap₂ (λ (f h : Forest). together c.args.manner f h) x.near x.far)
    ∙ ap (λ (d : Place). renewed (refitted_by (place_by by) (parted g n (gone_by by) d) n d all)
    n d all) c.input_in-input.ensures
