use Rattle.operate_step.proofs.Calling.{made_is}
use Rattle.operate_step.proofs.called.operate.Goals as goal

pub returns : goal.returns
returns g c w objects same found =
    made_is w (g.F.Functions.called c.args.functions.now) c.args.origin c.args.function
    c.args.values objects same found c.argument_of.result c.argument_of.ensures c.call_on.result
    c.call_on.ensures
