use Rattle.std.proofs.Common.{List, ap, ap₂, ◌∙◌}
use Rattle.exec_graph.specs.Forests.{Branch, Forest, grown}
use Rattle.graph_laws.specs.Joining.{beside}
use Rattle.graph_walks.proofs.Relabeling.{grown_append}
use Rattle.graph_joining.proofs.joining.side_by_side.Goals as goal

pub returns : goal.returns
returns c =
    ap (λ (bs : List Branch). grown bs) c.in_ok-append.ensures.items
    ∙ grown_append c.halve.new.steps.items c.halve-2.new.steps.items
    ∙ ap₂ (λ (f h : Forest). beside f h) c.in_ok-halve.ensures c.in_ok-halve-2.ensures
