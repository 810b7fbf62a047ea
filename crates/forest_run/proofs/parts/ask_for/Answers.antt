use Rattle.std.proofs.Common.{length, arith}
use Rattle.crew.specs.Drills.{attempt_at}
use Rattle.forest_run.proofs.Asking.{let_none}
use Rattle.forest_run.proofs.parts.ask_for.Goals as goal

pub returns-in-Ok-clause-all : goal.returns-in-Ok-clause-all
returns-in-Ok-clause-all g c =
    let e = attempt_at c.args.spot.now c.args.task in
    let a = g.H.Host.account c.args.host.now in
    c.in-Ok.ensures.all a (let_none e a)

pub returns-in-Err-clause-down : goal.returns-in-Err-clause-down
returns-in-Err-clause-down g c =
    let e = attempt_at c.args.spot.now c.args.task in
    let a = g.H.Host.account c.args.host.now in
    c.in-Err.ensures.down a (length c.args.elements.now) (omega arith) (let_none e a)
