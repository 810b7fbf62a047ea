use Rattle.std.proofs.lemmas.Result.{IfErr-weaker, IfOk-weaker, err_from_is_err_and}
use Rattle.phase_outs.proofs.Placing.{given_up, settled_made, settled_stop, unsettled_stop}
use Rattle.phase_outs.proofs.run.run_to_end.Goals as goal

pub returns-in-Ok-clause-made : goal.returns-in-Ok-clause-made
returns-in-Ok-clause-made g c =
    let settled = rw (← c.into_vec.ensures) at c.in-Ok.ensures.settled in
    IfOk-weaker c.made_outs.result _ _ (λ made m. settled_made _ _ _ _ _ _ _ made settled m)
    c.made_outs.ensures.made

pub returns-in-Ok-clause-stop : goal.returns-in-Ok-clause-stop
returns-in-Ok-clause-stop g c =
    let settled = rw (← c.into_vec.ensures) at c.in-Ok.ensures.settled in
    IfErr-weaker c.made_outs.result _ _ (λ w t. settled_stop _ _ _ _ _ _ _ w settled t)
    c.made_outs.ensures.stop

pub returns-in_err-made_outs-in-Err-GaveUp-clause-stop :
    goal.returns-in_err-made_outs-in-Err-GaveUp-clause-stop
returns-in_err-made_outs-in-Err-GaveUp-clause-stop g c =
    let p = err_from_is_err_and c.from_residual.result c.from_residual.ensures.1 in
    let settled = rw c.in-Err-GaveUp.field-0-is at c.in-Err-GaveUp.ensures.fault in
    rw (p.1, p.2)
    (unsettled_stop _ _ _ _ _ _ _ _ _ (rw (← c.into_vec-in-Err-GaveUp.ensures) at settled)
    c.in_err-made_outs-in-Err-GaveUp.ensures.stop)

pub returns-in_ok-made_outs-in-Err-GaveUp-clause-stop :
    goal.returns-in_ok-made_outs-in-Err-GaveUp-clause-stop
returns-in_ok-made_outs-in-Err-GaveUp-clause-stop g c =
    let settled = rw c.in-Err-GaveUp.field-0-is at c.in-Err-GaveUp.ensures.fault in
    given_up _ _ _ _ _ _ _ _ _ (rw (← c.into_vec-in-Err-GaveUp.ensures) at settled)
    c.in_ok-made_outs-in-Err-GaveUp.ensures.made
