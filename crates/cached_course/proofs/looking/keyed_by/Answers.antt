use Rattle.std.proofs.Common.{◌∙◌, ap, length, sym}
use Rattle.std.proofs.lemmas.Result.{IfOk-weaker}
use Rattle.kept_results.specs.Keyed.{keyed_nodes}
use Rattle.cached_course.proofs.looking.keyed_by.Goals as goal

pub keyed_nodes-requires : goal.keyed_nodes-requires
keyed_nodes-requires c =
    ap length c.as_slice-texts.ensures ∙ c.requires ∙ sym (ap length c.as_slice-outlines.ensures)

pub returns : goal.returns
returns c =
    IfOk-weaker c.keyed_nodes.result _ _
    (λ asked are. are
    ∙ (λ i. keyed_nodes (c.as_slice-outlines.ensures i) (c.as_slice-texts.ensures i)
    (c.as_slice-files.ensures i) c.args.program.now.script))
    c.keyed_nodes.ensures
