use Rattle.std.proofs.Common.{Option, Some, None, sym, subst}
use Rattle.exec_graph.specs.Wellformed.{IsGraphOk}
use Rattle.exec_graph.specs.declared.graph.Blocked.{Blocked}
use Rattle.graph_rewriting.specs.Applied.{IsApplied}
use Rattle.graph_rewriting.proofs.standing.plainly.Goals as goal

pub apply-requires : goal.apply-requires
apply-requires c =
    subst (λ (b : Blocked). IsGraphOk b.graph) (sym c.in_ok-blocked.ensures) c.requires

pub returns-in-Some-clause-applied : goal.returns-in-Some-clause-applied
returns-in-Some-clause-applied c =
    subst (λ (b : Blocked). IsApplied b c.args.rewrite (Some c.in-Some.next))
    c.in_ok-blocked.ensures
    (subst (λ (o : Option Blocked). IsApplied c.in_ok-blocked.blocked c.args.rewrite o)
    c.in-Some.is c.in_ok-next.ensures)

pub returns-in-None-clause-applied : goal.returns-in-None-clause-applied
returns-in-None-clause-applied c =
    subst (λ (b : Blocked). IsApplied b c.args.rewrite None) c.in_ok-blocked.ensures
    (subst (λ (o : Option Blocked). IsApplied c.in_ok-blocked.blocked c.args.rewrite o)
    c.in-None.is c.in_ok-next.ensures)
