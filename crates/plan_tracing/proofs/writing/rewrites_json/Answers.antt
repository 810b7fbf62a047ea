use Rattle.std.proofs.Common.{sym, ◌∙◌}
use Rattle.plan_file_law.specs.of_plan_json.PlanJson.{plan_json_of}
use Rattle.plan_tracing.proofs.writing.rewrites_json.Goals as goal

pub returns : goal.returns
returns g c =
    c.in_ok-text.ensures (plan_json_of (g.N.Names.naming c.args.names.now) c.args.plan.now)
    (sym (c.as_slice.ensures.value ∙ c.in_ok-own.ensures))
