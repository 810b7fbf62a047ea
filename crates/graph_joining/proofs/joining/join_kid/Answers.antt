use Rattle.std.proofs.Common.{cond, sym, ap, ◌∙◌}
use Rattle.std.proofs.lemmas.Bool.{le-ltb, lt-ltb}
use Rattle.exec_graph.proofs.Soundness.{IsSound-ok}
use Rattle.graph_rewrites.specs.Rewrites.{kid_under, kid_under_other}
use Rattle.graph_joining.proofs.Steps.{kid_stands, other_is}
use Rattle.graph_joining.proofs.joining.join_kid.Goals as goal

pub joined-requires-clause-stand : goal.joined-requires-clause-stand
joined-requires-clause-stand c =
    let k = c.args.kid in
    kid_stands c.args.graph k.keeper k.output k.reader (IsSound-ok c.args.graph c.requires.ok)
    c.requires.can

pub returns-then-kid : goal.returns-then-kid
returns-then-kid c =
    let g = c.args.graph in
    let p = c.args.kid.keeper in
    let k = c.args.kid.output in
    let q = c.args.kid.reader in
    c.in_ok-other.ensures
    ∙ other_is g p q (kid_stands g p k q (IsSound-ok g c.requires.ok) c.requires.can) k
    ∙ ap (λ b. cond b (kid_under_other g p k q) (kid_under g p k q))
    (sym (lt-ltb q p c.if-kid.true))

pub returns : goal.returns
returns c =
    let g = c.args.graph in
    let p = c.args.kid.keeper in
    let k = c.args.kid.output in
    let q = c.args.kid.reader in
    c.in_ok-under.ensures
    ∙ ap (λ b. cond b (kid_under_other g p k q) (kid_under g p k q))
    (sym (le-ltb q p c.if-kid.false))
