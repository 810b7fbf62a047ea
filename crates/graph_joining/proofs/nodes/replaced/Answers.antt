use Rattle.std.proofs.Common.{List, [], Option, sym, ap, ◌∙◌}
use Rattle.exec_graph.specs.declared.graph.Entry.{Entry}
use Rattle.exec_graph.specs.declared.graph.Node.{Node}
use Rattle.exec_graph.specs.declared.graph.Node.TheVariants.{Flatten}
use Rattle.exec_graph.proofs.Entries.{entry}
use Rattle.flatten_sink.specs.Places.{index_at}
use Rattle.flatten_sink.proofs.Standing.{placed, absent}
use Rattle.flatten_sink.specs.of_sink_laws.Chain.{forest_of}
use Rattle.graph_joining.proofs.nodes.replaced.Goals as goal

pub returns-in-Some : goal.returns-in-Some
returns-in-Some c =
    let n = c.args.number in
    let z : Entry = entry 0 (Flatten []) in
    let here = placed c.args.nodes.items n c.in-Some.i
    (ap (λ (l : List Entry). index_at l n) (sym c.as_slice.ensures.value)
    ∙ sym c.index_of.ensures.place ∙ c.in-Some.is) in record {
      nodes = c.replaced_at.ensures.nodes ∙ sym (here.changed c.args.node);
      steps = c.replaced_at.ensures.steps z
          ∙ ap (λ (o : Option Node). forest_of o) (sym (here.here z));
    }

pub returns-in-None : goal.returns-in-None
returns-in-None c =
    let n = c.args.number in
    let none = absent c.args.nodes.items n
    (ap (λ (l : List Entry). index_at l n) (sym c.as_slice.ensures.value)
    ∙ sym c.index_of.ensures.place ∙ c.in-None.is) in record {
      nodes = c.unopened.ensures.nodes ∙ sym (none.changed c.args.node);
      steps = c.unopened.ensures.steps
          ∙ ap (λ (o : Option Node). forest_of o) (sym none.here);
    }
