use Rattle.std.proofs.Common.{ℕ, List, ◌++◌, length, ap, ◌∙◌}
use Rattle.graph_laws.specs.of_exec_graph.Forests.{Branch, grown}
use Rattle.graph_walks.specs.inner.Numbering.{branches_outs, numbered_branches}
use Rattle.graph_walks.proofs.NumberLemmas.{grown_numbered, outs_grown}
use Rattle.graph_walks.proofs.numbering.number_forest.Goals as goal

pub returns-clause-steps : goal.returns-clause-steps
returns-clause-steps c =
    let bs = c.args.steps.now.items in
    ap (λ (x : List Branch). grown x) (c.in_ok-number_steps.ensures.steps
    ∙ ap (λ (ns : List ℕ). numbered_branches (length ns) bs) c.new-outs.ensures.items)
    ∙ grown_numbered 0 bs

pub returns-clause-outs : goal.returns-clause-outs
returns-clause-outs c =
    let bs = c.args.steps.now.items in
    c.in_ok-number_steps.ensures.outs
    ∙ ap (λ (ns : List ℕ). ns ++ branches_outs bs) c.new-outs.ensures.items ∙ outs_grown bs
