use Rattle.std.proofs.Common.{List, ap, ◌∙◌}
use Rattle.graph_laws.specs.of_exec_graph.Forests.{Branch, Forest, grown, numbered}
use Rattle.graph_walks.specs.Outs.{flag, outs}
use Rattle.graph_walks.proofs.Relabeling.{grown_kept}
use Rattle.graph_walks.proofs.numbering.renumber.Goals as goal

pub returns-clause-steps : goal.returns-clause-steps
returns-clause-steps c =
    c.in_ok-outs.ensures.steps
    ∙ ap (λ (f : Forest). numbered 0 f) (ap (λ (bs : List Branch). grown bs) c.in_ok-relabel.ensures
    ∙ grown_kept (flag c.args.keep.now) c.args.steps.now.items)

pub returns-clause-outs : goal.returns-clause-outs
returns-clause-outs c =
    c.in_ok-outs.ensures.outs
    ∙ ap (λ (f : Forest). outs f) (ap (λ (bs : List Branch). grown bs) c.in_ok-relabel.ensures
    ∙ grown_kept (flag c.args.keep.now) c.args.steps.now.items)
