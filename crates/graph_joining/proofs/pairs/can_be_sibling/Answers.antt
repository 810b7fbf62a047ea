use Rattle.std.proofs.Common.{List, ap, sym, subst, ◌∙◌}
use Rattle.exec_graph.specs.Wellformed.{Ascends}
use Rattle.exec_graph.specs.declared.graph.Entry.{Entry}
use Rattle.graph_joining.specs.inner.Tests.{can_sibling}
use Rattle.graph_joining.proofs.Passes.{sibling_told}
use Rattle.graph_joining.proofs.pairs.can_be_sibling.Goals as goal

pub can_sibling-requires : goal.can_sibling-requires
can_sibling-requires c = subst Ascends (sym c.as_slice.ensures) c.requires

pub returns : goal.returns
returns c =
    let p = c.args.keeper in
    let q = c.args.other in
    sibling_told c.args.graph.now p q _ (c.can_sibling.ensures
    ∙ ap (λ (es : List Entry). can_sibling es p q) c.as_slice.ensures)
