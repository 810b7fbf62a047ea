use Rattle.graph_rewriting.specs.inner.Standings.{blocked_of}
use Rattle.graph_rewriting.proofs.Standings.{renamed}
use Rattle.graph_rewriting.proofs.standing.applied.Goals as goal

pub returns-in-Kid-clause-applied : goal.returns-in-Kid-clause-applied
returns-in-Kid-clause-applied c =
    renamed c.kid.result (blocked_of c.args.now) c.args.rewrite _ c.in-Kid.is c.kid.ensures.applied

pub returns-in-Sibling-clause-applied : goal.returns-in-Sibling-clause-applied
returns-in-Sibling-clause-applied c =
    renamed c.sibling.result (blocked_of c.args.now) c.args.rewrite _ c.in-Sibling.is
    c.sibling.ensures.applied
