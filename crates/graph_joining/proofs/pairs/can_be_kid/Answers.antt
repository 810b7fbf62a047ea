use Rattle.std.proofs.Common.{List, ap, sym, subst, ◌∙◌}
use Rattle.exec_graph.specs.Wellformed.{Ascends}
use Rattle.exec_graph.specs.declared.graph.Entry.{Entry}
use Rattle.graph_joining.specs.inner.Tests.{can_kid}
use Rattle.graph_joining.proofs.Passes.{kid_told}
use Rattle.graph_joining.proofs.pairs.can_be_kid.Goals as goal

pub can_kid-requires : goal.can_kid-requires
can_kid-requires c = subst Ascends (sym c.as_slice.ensures) c.requires

pub returns : goal.returns
returns c =
    let k = c.args.kid in
    kid_told c.args.graph.now k.keeper k.output k.reader _ (c.can_kid.ensures
    ∙ ap (λ (es : List Entry). can_kid es k.keeper k.output k.reader) c.as_slice.ensures)
