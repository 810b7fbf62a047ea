use Rattle.std.proofs.Common.{◌∙◌, sym}
use Rattle.std.proofs.lemmas.Result.{IfOk-weaker}
use Rattle.plan_files.specs.Written.{rewrites_json}
use Rattle.plan_files.proofs.writing.file_text.Goals as goal

pub returns : goal.returns
returns c =
    IfOk-weaker c.around.result _ _
    (λ text h d p. h d (rewrites_json c.args.rewrites.now) p
    (sym c.in_ok-list.ensures ∙ sym c.as_slice.ensures.value)) c.around.ensures
