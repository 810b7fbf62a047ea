use Rattle.std.proofs.Common.{ap, ◌∙◌}
use Rattle.std.proofs.lemmas.Result.{IfOk-weaker}
use Rattle.serde_json.specs.Written.{compact_text, has_float}
use Rattle.plan_json.proofs.Floats.{plan_whole}
use Rattle.plan_json.proofs.json.plan_json.Goals as goal

pub returns : goal.returns
returns g c =
    let same = c.in_ok-plan_value.ensures in
    let whole = plan_whole (g.N.Names.naming c.args.names.now) c.args.plan.now in
    IfOk-weaker c.to_vec.result _ _ (λ text h. h (ap has_float same ∙ whole) ∙ ap compact_text same)
    c.to_vec.ensures.text
