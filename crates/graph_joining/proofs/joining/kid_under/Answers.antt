use Rattle.std.proofs.Common.{◌∙◌}
use Rattle.exec_graph.proofs.Soundness.{IsSound-ok}
use Rattle.graph_joining.proofs.Steps.{kid_is, kid_stands}
use Rattle.graph_joining.proofs.joining.kid_under.Goals as goal

pub joined-requires-clause-stand : goal.joined-requires-clause-stand
joined-requires-clause-stand c =
    let k = c.args.kid in
    kid_stands c.args.graph k.keeper k.output k.reader (IsSound-ok c.args.graph c.requires.ok)
    c.requires.can

pub returns : goal.returns
returns c =
    let g = c.args.graph in
    let k = c.args.kid in
    c.in_ok-under.ensures ∙ kid_is g k.keeper k.reader
    (kid_stands g k.keeper k.output k.reader (IsSound-ok g c.requires.ok) c.requires.can) k.output
