use Rattle.std.proofs.Common.{refl, arith}
use Rattle.crew.specs.Drills.{attempt_at}
use Rattle.forest_run.proofs.Asking.{let_none}
use Rattle.forest_run.proofs.walking.walk.Goals as goal

pub loop-place-init : goal.loop-place-init
loop-place-init g c =
    let a = g.H.Host.account c.args.host.now in record {
      goes = refl;
      lets = c.in-Ok.ensures.all a (let_none (attempt_at c.args.spot.now c.args.task) a);
      left = omega arith;
      safe = c.requires;
    }
