use Rattle.std.proofs.Common.{List, ap, sym, ◌∙◌}
use Rattle.exec_graph.specs.Meaning.{node_at}
use Rattle.exec_graph.specs.declared.graph.Entry.{Entry}
use Rattle.exec_graph.specs.declared.graph.Place.{Place}
use Rattle.graph_tracing.specs.inner.Callers.{below, first_caller}
use Rattle.graph_tracing.proofs.Firsts.{keeper_other, keeper_pdo}
use Rattle.graph_tracing.proofs.callers.keeper_of.Goals as goal

pub returns-then-is_pdo : goal.returns-then-is_pdo
returns-then-is_pdo c =
    let es : List Entry = c.args.graph.now.nodes in
    let q = c.args.number in
    c.first_below.ensures ∙ ap (λ (d : Place). below q (first_caller d es)) c.input.ensures
    ∙ sym (keeper_pdo es q (node_at es q) (sym c.is_pdo.ensures ∙ c.if-is_pdo.true))

pub returns-else-is_pdo : goal.returns-else-is_pdo
returns-else-is_pdo c =
    let es : List Entry = c.args.graph.now.nodes in
    let q = c.args.number in
    sym (keeper_other es q (node_at es q) (sym c.is_pdo.ensures ∙ c.if-is_pdo.false))
