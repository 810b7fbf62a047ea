use Rattle.task_safety.proofs.Standing.{can_run}
use Rattle.task_safety.proofs.laws.stage_law.Goals as goal

pub returns : goal.returns
returns g c = record {
  ready = λ w n p k s t ok run at so_far.
      can_run w (g.F.Functions.can_call c.args.functions.now) n p k s t ok run at so_far;
}
