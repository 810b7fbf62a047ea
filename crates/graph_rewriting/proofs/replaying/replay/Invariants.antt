use Rattle.std.proofs.Common.{◌≡◌}
use Rattle.graph_rewriting.specs.inner.Standings.{IsStanding, blocked_of}
use Rattle.graph_rewriting.proofs.Chain.{IsLed}
use Rattle.graph_rewriting.proofs.replaying.replay.Given as goal

-- the rewrites so far have led here
abbrev pub invariant-loop-rewrite : goal.invariant-loop-rewrite
invariant-loop-rewrite l = record {
  led : IsLed l.fn.graph l.rewrites l.rewrite-index l.group (blocked_of l.now);
  standing : IsStanding l.now;
  step : l.step ≡ l.rewrite-index;
}
