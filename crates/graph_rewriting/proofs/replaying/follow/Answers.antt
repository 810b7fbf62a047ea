use Rattle.std.proofs.Common.{◌≡◌, ◌≤◌, arith}
use Rattle.graph_rewrites.specs.Replays.{rewrite_group}
use Rattle.graph_rewriting.specs.inner.Standings.{blocked_of, shown}
use Rattle.graph_rewriting.proofs.Chain.{followed}
use Rattle.graph_rewriting.proofs.replaying.follow.Goals as goal

pub returns-then-own-group-clause-follows : goal.returns-then-own-group-clause-follows
returns-then-own-group-clause-follows c = λ can.
    let h : c.args.group ≤ rewrite_group c.args.rewrite = can.0 in
    let e : c.group_of-own.result ≡ rewrite_group c.args.rewrite = c.group_of-own.ensures in
    omega arith

pub returns-clause-follows : goal.returns-clause-follows
returns-clause-follows c =
    let e : c.group_of-own.result ≡ rewrite_group c.args.rewrite = c.group_of-own.ensures in
    followed c.args.group (blocked_of c.args.now) c.args.rewrite (shown c.in_ok-made.made)
    (omega arith) c.in_ok-made.ensures.applied
