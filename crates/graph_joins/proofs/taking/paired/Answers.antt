use Rattle.std.proofs.Common.{List, ap, ap₂, ◌∙◌}
use Rattle.exec_graph.specs.Forests.{Branch, Forest, grown}
use Rattle.graph_laws.specs.Joining.{beside}
use Rattle.graph_states.specs.of_graph_rewrites.Rewrites.{input_at}
use Rattle.graph_walks.proofs.Relabeling.{grown_append}
use Rattle.graph_joins.proofs.TakenLemmas.{taken_again}
use Rattle.graph_joins.proofs.taking.paired.Goals as goal

pub returns : goal.returns
returns c =
    let g = c.args.graph in
    let x = c.take_apart-left.result in
    let e = c.take_apart-left.ensures in
    taken_again g x.graph c.with_steps.result c.args.keeper c.args.other
    (input_at g c.args.keeper) x.input _ _ e.graph e.input
    (ap (λ (bs : List Branch). grown bs) c.in_ok-append.ensures.items
    ∙ grown_append x.stays.items x.goes.items
    ∙ ap₂ (λ (f i : Forest). beside f i) e.stays e.goes) c.with_steps.ensures
