use Rattle.std.proofs.Common.{sym, ap, ◌∙◌}
use Rattle.exec_graph.specs.Meaning.{node_at}
use Rattle.exec_graph.specs.declared.graph.Node.{Node}
use Rattle.sink_laws.specs.Chain.{call_at, lesser_pair}
use Rattle.flatten_sink.proofs.Behind.{stays}
use Rattle.flatten_sink.proofs.next.lesser_call.Goals as goal

pub returns-then-is_behind : goal.returns-then-is_behind
returns-then-is_behind c =
    sym (ap (λ (x : Node). lesser_pair c.args.least (call_at c.args.nodes.now c.args.number x))
    c.in-Pdo.is
    ∙ stays c.args.least c.in-Pdo.input.node c.args.number
    (node_at c.args.nodes.now c.in-Pdo.input.node)
    (sym c.is_behind.ensures ∙ c.if-is_behind.true))
