use Rattle.std.proofs.Common.{Some, ap, arith, sym, ◌∙◌}
use Rattle.stage_exec.proofs.Acting.{only_not, only_one}
use Rattle.stage_exec.proofs.objects.only_value.Goals as goal

pub returns-in_ok-copy : goal.returns-in_ok-copy
returns-in_ok-copy c =
    ap Some c.in_ok-copy.ensures
    ∙ sym (only_one c.args.list.now _ (omega (arith, c.if-list-eq1.true)) c.index-list-0.is)

pub returns-else-list-eq1 : goal.returns-else-list-eq1
returns-else-list-eq1 c =
    sym (only_not c.args.list.now (λ one. omega (arith, one, c.if-list-eq1.false)))
