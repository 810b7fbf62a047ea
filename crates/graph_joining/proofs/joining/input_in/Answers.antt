use Rattle.std.proofs.Common.{List, ap, sym, subst, ◌∙◌}
use Rattle.exec_graph.specs.Meaning.{node_at}
use Rattle.exec_graph.specs.Wellformed.{Ascends}
use Rattle.exec_graph.specs.declared.graph.Entry.{Entry}
use Rattle.graph_rewrites.specs.Rewrites.{input_of}
use Rattle.graph_joining.proofs.joining.input_in.Goals as goal

pub input_at-requires : goal.input_at-requires
input_at-requires c = subst Ascends (sym c.as_slice.ensures) c.requires

pub returns : goal.returns
returns c =
    c.input_at.ensures
    ∙ ap (λ (es : List Entry). input_of (node_at es c.args.number)) c.as_slice.ensures
