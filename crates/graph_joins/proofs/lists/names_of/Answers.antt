use Rattle.std.proofs.Common.{◌++◌, List, sym, ap, ◌∙◌, append-nil, arith}
use Rattle.std.proofs.lemmas.List.{drop_all}
use Rattle.exec_graph.specs.Forests.{Branch}
use Rattle.graph_walks.specs.inner.Numbering.{branches_outs}
use Rattle.graph_walks.proofs.NumberLemmas.{outs_grown}
use Rattle.graph_joins.proofs.lists.names_of.Goals as goal

pub returns : goal.returns
returns c =
    let l = c.loop-step in
    let bs = c.args.steps.now in
    sym (append-nil l.names.items)
    ∙ ap (λ (xs : List Branch). l.names.items ++ branches_outs xs)
    (sym (drop_all l.step-index bs (omega arith)))
    ∙ l.invariant ∙ outs_grown bs
