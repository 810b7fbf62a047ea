use Rattle.plan_checks.proofs.Deciding.{plan_is_ok}
use Rattle.plan_checks.proofs.checks.plan_ok.Goals as goal

pub returns : goal.returns
returns c = plan_is_ok c.args.plan.now c.passes.result c.passes.ensures
