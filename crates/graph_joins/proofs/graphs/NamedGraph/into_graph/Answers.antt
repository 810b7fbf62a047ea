use Rattle.std.proofs.Common.{rules, List, ap, ◌∙◌}
use Rattle.std.proofs.lemmas.Fn.{filter_same}
use Rattle.exec_graph.specs.declared.graph.Entry.{Entry}
use Rattle.graph_joins.specs.Present.{is_here}
use Rattle.graph_joining.specs.inner.Refits.{graph_of}
use Rattle.graph_joins.proofs.graphs.NamedGraph.into_graph.Goals as goal

pub returns : goal.returns
returns c =
    ap (λ (es : List Entry). graph_of es c.self.inside.outputs c.self.inside.next)
    (c.from_vec.ensures
    ∙ filter_same _ (λ (e : Entry). is_here e.node) _ (λ x b f' k. search rules) _ _
    c.retain.ensures.filtered)
    ∙ c.self.view_is
