use Rattle.std.proofs.lemmas.Result.{err_from_is_err_and}
use Rattle.stage_exec.proofs.objects.object_lists.Goals as goal

pub returns-in_err-members : goal.returns-in_err-members
returns-in_err-members g c w e =
    let p = err_from_is_err_and c.from_residual.result c.from_residual.ensures.1 in
    rw (p.1, p.2) tt

pub returns : goal.returns
returns g c w e = rw (c.in_ok-members.ensures w e) (c.kept.ensures w)
