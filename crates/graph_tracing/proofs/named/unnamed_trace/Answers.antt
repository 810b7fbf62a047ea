use Rattle.std.proofs.Common.{ap}
use Rattle.exec_graph.specs.declared.graph.Graph.{Graph}
use Rattle.graph_tracing.proofs.Traces.{as_trace}
use Rattle.graph_tracing.proofs.named.unnamed_trace.Goals as goal

pub returns : goal.returns
returns c = ap (λ (g : Graph). as_trace g c.args.trace.rewrites) c.in_ok-graph.ensures
