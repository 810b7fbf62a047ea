use Rattle.std.proofs.Common.{◌∙◌}
use Rattle.exec_graph.proofs.Soundness.{IsSound-ok}
use Rattle.graph_joining.proofs.Steps.{sibling_is, sibling_stands}
use Rattle.graph_joining.proofs.joining.join_sibling.Goals as goal

pub joined-requires-clause-stand : goal.joined-requires-clause-stand
joined-requires-clause-stand c =
    sibling_stands c.args.graph c.args.keeper c.args.other (IsSound-ok c.args.graph c.requires.ok)
    c.requires.can

pub returns : goal.returns
returns c =
    let g = c.args.graph in
    let p = c.args.keeper in
    let q = c.args.other in
    c.in_ok-sibling.ensures
    ∙ sibling_is g p q (sibling_stands g p q (IsSound-ok g c.requires.ok) c.requires.can)
