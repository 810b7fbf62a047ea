use Rattle.outside.specs.Accounts.{Account}
use Rattle.crew.specs.Drills.{attempt_at}
use Rattle.forest_run.specs.inner.Asking.{LetThrough}
use Rattle.forest_run.proofs.ask.ask_all.Given as goal

abbrev pub invariant-loop-place : goal.invariant-loop-place
invariant-loop-place g l =
    (a : Account)
    → LetThrough (attempt_at l.spot l.task) l.from a (g.H.Host.account l.initial.host)
    → LetThrough (attempt_at l.spot l.task) l.place a (g.H.Host.account l.host)
