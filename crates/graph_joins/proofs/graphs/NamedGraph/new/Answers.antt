use Rattle.std.proofs.Common.{List, ap, sym, subst, ◌∙◌}
use Rattle.exec_graph.specs.Wellformed.{Ascends}
use Rattle.exec_graph.specs.declared.graph.Entry.{Entry}
use Rattle.graph_joins.specs.Present.{present}
use Rattle.graph_joining.specs.inner.Refits.{graph_of}
use Rattle.graph_joins.proofs.graphs.NamedGraph.new.Goals as goal

pub invariant_of-result : goal.invariant_of-result
invariant_of-result c = subst Ascends (sym c.into_vec.ensures) c.requires.ascends

pub returns : goal.returns
returns c =
    ap (λ (es : List Entry). graph_of es c.args.graph.outputs c.args.graph.next)
    (ap present c.into_vec.ensures ∙ c.requires.present)
