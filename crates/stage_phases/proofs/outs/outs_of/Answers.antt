use Rattle.std.proofs.Common.{◌∙◌}
use Rattle.std.proofs.lemmas.Result.{err_from_is_err_and}
use Rattle.stage_phases.specs.inner.Tasks.{fault_at}
use Rattle.stage_phases.proofs.Telling.{has_run, has_stopped, phase_asked}
use Rattle.stage_phases.proofs.outs.outs_of.Goals as goal

pub returns-in_ok-tell-in-Ok-clause-ended : goal.returns-in_ok-tell-in-Ok-clause-ended
returns-in_ok-tell-in-Ok-clause-ended g c w ph p =
    has_run w ph _ _ _ _ _ _ p _ _ c.in-Ok.made c.in-Ok.ensures.made c.in-Ok.ensures.asked
    c.in_ok-tell-in-Ok.ensures

pub returns-in_err-tell-in-Ok-clause-ended : goal.returns-in_err-tell-in-Ok-clause-ended
returns-in_err-tell-in-Ok-clause-ended g c w ph p =
    let e = err_from_is_err_and c.from_residual.result c.from_residual.ensures.1 in
    rw (e.1, e.2)
    (phase_asked w ph _ _ _ _ _ _ p _ c.in-Ok.ensures.asked c.in-Ok.ensures.made.work)

pub returns-in-Err-clause-ended : goal.returns-in-Err-clause-ended
returns-in-Err-clause-ended g c w ph p =
    let is = c.fault_at.ensures
    ∙ (λ i. fault_at (c.stage.ensures i) (c.phase.ensures i) c.in-Err.stop) in
    rw is
    (has_stopped w ph _ _ _ _ _ _ p c.in-Err.stop c.in-Err.ensures.stop c.in-Err.ensures.asked)
