use Rattle.std.proofs.Common.{sym, ap, subst}
use Rattle.graph_rewriting.specs.declared.standing.Standing.{Standing}
use Rattle.graph_rewriting.specs.inner.Standings.{IsStanding, blocked_of}
use Rattle.graph_rewriting.proofs.standing.under_names.Goals as goal

pub returns-in-Joined-clause-session : goal.returns-in-Joined-clause-session
returns-in-Joined-clause-session c =
    subst (λ (s : Standing). IsStanding s) c.in-Joined.is c.requires.standing

pub returns-in-Joined-clause-graph : goal.returns-in-Joined-clause-graph
returns-in-Joined-clause-graph c =
    ap (λ (s : Standing). (blocked_of s).graph) (sym c.in-Joined.is)

pub returns-in-Joined-clause-marks : goal.returns-in-Joined-clause-marks
returns-in-Joined-clause-marks c =
    ap (λ (s : Standing). (blocked_of s).marks) (sym c.in-Joined.is)
