use Rattle.std.proofs.Common.{sym, subst}
use Rattle.exec_graph.specs.Wellformed.{IsGraphOk}
use Rattle.graph_rewrites.specs.declared.rewrite.Rewrite.TheVariants.{Sibling}
use Rattle.graph_joins.specs.of_graph_names.Names.{unnamed}
use Rattle.graph_rewriting.specs.inner.Standings.{blocked_of}
use Rattle.graph_rewriting.proofs.Standings.{sibling_made, told, under, with_marks}
use Rattle.graph_rewriting.proofs.standing.sibling.Goals as goal

pub plainly-requires : goal.plainly-requires
plainly-requires c = subst IsGraphOk (sym c.in_ok-joins.ensures.graph) c.requires.ok

pub returns-then-not-is_pair-clause-applied : goal.returns-then-not-is_pair-clause-applied
returns-then-not-is_pair-clause-applied c =
    told c.plainly.result
    (with_marks (unnamed c.in_ok-joins.field-0.joins.graph) c.in_ok-joins.field-0.marks)
    (blocked_of c.args.now) (Sibling c.args.keeper c.args.other)
    (under (blocked_of c.args.now) (unnamed c.in_ok-joins.field-0.joins.graph)
    c.in_ok-joins.field-0.marks c.in_ok-joins.ensures.graph c.in_ok-joins.ensures.marks)
    c.plainly.ensures.applied

pub with_sibling-requires-clause-pair : goal.with_sibling-requires-clause-pair
with_sibling-requires-clause-pair c = c.is_pair.ensures.0 c.if-not-is_pair.false

pub returns-clause-applied : goal.returns-clause-applied
returns-clause-applied c =
    let pair = c.is_pair.ensures.0 c.if-not-is_pair.false in
    let b = c.in_ok-joins.field-0 in
    sibling_made (blocked_of c.args.now) (unnamed b.joins.graph) (unnamed c.in_ok-next.next.graph)
    b.marks c.in_ok-joins.ensures.graph c.in_ok-joins.ensures.marks c.args.keeper
    c.args.other pair.less c.in_ok-next.ensures.can
    c.in_ok-next.ensures.made
