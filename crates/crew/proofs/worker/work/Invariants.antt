use Rattle.std.proofs.Common.{◌≡◌, ◌-◌}
use Rattle.claim_board.specs.Protocol.{limit}
use Rattle.crew.specs.Hosts.{Grew}
use Rattle.crew.specs.inner.Turns.{WorkedSoFar}
use Rattle.crew.proofs.Working.{high}
use Rattle.crew.proofs.worker.work.Given as goal

abbrev pub invariant-draws : goal.invariant-draws
invariant-draws g l = record {
  same : l.pass.board ≡ l.initial.pass.board;
  grew : Grew (g.H.Host.account l.initial.host)
      (g.H.Host.account l.host);
  worked : WorkedSoFar (g.T.Tasks.count_of l.tasks) l.phase (g.T.Tasks.is_value l.tasks)
      (g.T.Tasks.places l.tasks) l.initial.pass.state l.pass.state (g.H.Host.account l.initial.host)
      (g.H.Host.account l.host) l.kept;
}

abbrev pub decreases-draws : goal.decreases-draws
decreases-draws g l = limit l.board.tasks l.board.tries - high l.pass.state.draws
