use Rattle.crew.specs.Drills.{attempt_at}
use Rattle.forest_run.proofs.Asking.{let_more}
use Rattle.forest_run.proofs.ask.ask_all.Goals as goal

pub loop-place-preserved : goal.loop-place-preserved
loop-place-preserved g c a l =
    let f = g.H.Host.account in
    let_more (attempt_at c.args.spot.now c.args.task) c.loop-place.place a (f c.loop-place.host)
    (f c.ask.new.host) (c.loop-place.invariant a l) c.in_ok-ask.ensures.through
