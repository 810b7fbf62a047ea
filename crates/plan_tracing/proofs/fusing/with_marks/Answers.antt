use Rattle.std.proofs.Common.{List, ◌++◌, map, ap, ◌∙◌}
use Rattle.exec_graph.specs.Readers.{among}
use Rattle.graph_rewrites.specs.declared.rewrite.Rewrite.{Rewrite}
use Rattle.plan_tracing.specs.Lists.{mark_of}
use Rattle.plan_tracing.proofs.Marks.{marked_by}
use Rattle.plan_tracing.proofs.fusing.with_marks.Goals as goal

pub returns : goal.returns
returns c = λ b fusion is.
    marked_by b c.args.blocked c.args.fusions c.in_ok-marks.marks
    c.in_ok-rewrites.rewrites is fusion c.requires c.in_ok-marks.ensures.rise
    (λ d. c.in_ok-marks.ensures.same d ∙ ap (among d) c.as_slice.ensures)
    (c.in_ok-rewrites.ensures
    ∙ ap (λ (xs : List Rewrite). c.args.fusions ++ xs) (c.as_slice-3.ensures
    ∙ c.in_ok-more.ensures ∙ ap (map mark_of) c.as_slice-2.ensures))
