use Rattle.std.proofs.Common.{Option, subst}
use Rattle.exec_graph.specs.declared.graph.Graph.{Graph}
use Rattle.graph_rewriting.specs.inner.Made.{IsMade}
use Rattle.graph_rewriting.proofs.Sinks.{is_applied, not_applied}
use Rattle.graph_rewriting.proofs.applying.apply.Goals as goal

pub returns-in_ok-note_mark-in-Some : goal.returns-in_ok-note_mark-in-Some
returns-in_ok-note_mark-in-Some c =
    let b = c.args.blocked in
    is_applied b c.args.rewrite c.in-Some.made _
    (subst (λ (o : Option Graph). IsMade b.graph c.args.rewrite o) c.in-Some.is
    c.in_ok-made.ensures) c.in_ok-note_mark-in-Some.ensures

pub returns-in-None : goal.returns-in-None
returns-in-None c =
    let b = c.args.blocked in
    not_applied b c.args.rewrite (subst (λ (o : Option Graph). IsMade b.graph c.args.rewrite o)
    c.in-None.is c.in_ok-made.ensures)
