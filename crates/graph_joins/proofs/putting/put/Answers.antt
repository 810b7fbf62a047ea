use Rattle.std.proofs.Common.{List, ap₂, ◌∙◌}
use Rattle.exec_graph.specs.Forests.{Branch, grown}
use Rattle.graph_walks.specs.inner.Plants.{put_in}
use Rattle.graph_joins.proofs.HangLemmas.{hangs_outs, hangs_put}
use Rattle.graph_joins.proofs.PutLemmas.{put_kept}
use Rattle.graph_joins.proofs.putting.put.Goals as goal

pub returns-then-branch-clause-put : goal.returns-then-branch-clause-put
returns-then-branch-clause-put c =
    hangs_put c.args.output c.args.keep (grown c.args.others.items)
    (grown c.args.steps.now.items) (grown c.hang.new.steps.items)
    (c.in_ok-hang.ensures.hangs c.if-branch.true) c.requires.differ c.requires.other

pub returns-then-branch-clause-outs : goal.returns-then-branch-clause-outs
returns-then-branch-clause-outs c = λ e.
    hangs_outs c.args.output c.args.keep (grown c.args.others.items)
    (grown c.args.steps.now.items) (grown c.hang.new.steps.items)
    (c.in_ok-hang.ensures.hangs c.if-branch.true) c.requires.differ

pub returns-clause-put : goal.returns-clause-put
returns-clause-put c =
    let j = c.args.output in
    let k = c.args.keep in
    c.in_ok-put_on.ensures
    ∙ ap₂ (λ (os bs : List Branch). put_in j k (grown os) (grown bs))
    (c.in_ok-hang.ensures.others c.if-branch.false)
    (c.in_ok-hang.ensures.steps c.if-branch.false)
    ∙ put_kept j k (grown c.args.others.items) (grown c.args.steps.now.items) c.requires.differ
    c.requires.other
