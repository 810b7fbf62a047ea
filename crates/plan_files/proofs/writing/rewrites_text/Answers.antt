use Rattle.std.proofs.Common.{ap, ◌∙◌}
use Rattle.std.proofs.lemmas.Result.{IfOk-weaker}
use Rattle.serde_json.specs.Written.{compact_text, has_float}
use Rattle.plan_files.proofs.Whole.{rewrites_whole}
use Rattle.plan_files.proofs.writing.rewrites_text.Goals as goal

pub returns : goal.returns
returns c =
    let same = c.in_ok-rewrites_value.ensures in
    IfOk-weaker c.to_vec.result _ _
    (λ text h. h (ap has_float same ∙ rewrites_whole c.args.rewrites.now) ∙ ap compact_text same)
    c.to_vec.ensures.text
