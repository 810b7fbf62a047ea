use Rattle.std.proofs.Common.{sym, ap}
use Rattle.graph_rewriting.specs.inner.Standings.{blocked_of}
use Rattle.graph_rewriting.proofs.standing.ended.Goals as goal

pub returns-in-Plain : goal.returns-in-Plain
returns-in-Plain c = ap blocked_of (sym c.in-Plain.is)
