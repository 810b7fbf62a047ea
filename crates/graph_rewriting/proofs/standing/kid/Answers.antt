use Rattle.std.specs.Prelude.{IfSome}
use Rattle.std.proofs.Common.{ℕ, Option, sym, subst}
use Rattle.exec_graph.specs.Wellformed.{IsGraphOk}
use Rattle.graph_rewrites.specs.declared.rewrite.Rewrite.TheVariants.{Kid}
use Rattle.graph_joins.specs.Sessions.{IsReader}
use Rattle.graph_joins.specs.of_graph_names.Names.{unnamed}
use Rattle.graph_rewriting.specs.inner.Standings.{blocked_of}
use Rattle.graph_rewriting.proofs.Standings.{kid_made, told, under, with_marks}
use Rattle.graph_rewriting.proofs.standing.kid.Goals as goal

pub with_kid-requires-clause-reads : goal.with_kid-requires-clause-reads
with_kid-requires-clause-reads c =
    subst (λ (o : Option ℕ). IfSome o (λ n. IsReader c.in_ok-joins.field-0.joins.graph
    c.args.kid.keeper c.args.kid.output c.args.kid.reader n)) c.in-Some.is c.read_name.ensures.some

pub plainly-requires : goal.plainly-requires
plainly-requires c = subst IsGraphOk (sym c.in_ok-joins.ensures.graph) c.requires.ok

pub returns-in-None-clause-applied : goal.returns-in-None-clause-applied
returns-in-None-clause-applied c =
    told c.plainly.result
    (with_marks (unnamed c.in_ok-joins.field-0.joins.graph) c.in_ok-joins.field-0.marks)
    (blocked_of c.args.now) (Kid c.args.kid.keeper c.args.kid.output c.args.kid.reader)
    (under (blocked_of c.args.now) (unnamed c.in_ok-joins.field-0.joins.graph)
    c.in_ok-joins.field-0.marks c.in_ok-joins.ensures.graph c.in_ok-joins.ensures.marks)
    c.plainly.ensures.applied

pub returns-in_ok-next-in-Some-clause-applied : goal.returns-in_ok-next-in-Some-clause-applied
returns-in_ok-next-in-Some-clause-applied c =
    let b = c.in_ok-joins.field-0 in
    let made = c.in_ok-next-in-Some in
    kid_made (blocked_of c.args.now) (unnamed b.joins.graph) (unnamed made.next.graph) b.marks
    c.in_ok-joins.ensures.graph c.in_ok-joins.ensures.marks c.args.kid.keeper c.args.kid.output
    c.args.kid.reader made.ensures.can made.ensures.made
