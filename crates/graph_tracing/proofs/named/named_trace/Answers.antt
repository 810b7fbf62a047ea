use Rattle.std.proofs.Common.{ap}
use Rattle.exec_graph.specs.declared.graph.Graph.{Graph}
use Rattle.graph_tracing.proofs.Traces.{as_trace}
use Rattle.graph_tracing.proofs.named.named_trace.Goals as goal

pub returns-clause-same : goal.returns-clause-same
returns-clause-same c =
    ap (λ (g : Graph). as_trace g c.args.trace.rewrites) c.in_ok-joins.ensures.same
