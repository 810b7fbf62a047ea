use Rattle.std.proofs.Common.{◌-◌, ◌^◌}
use Rattle.flatten_sink.specs.inner.Turns.{IsReached}
use Rattle.graph_tracing.specs.Sinks.{IsSinking}
use Rattle.graph_tracing.proofs.sinking.sinks_of.Given as goal

abbrev pub invariant-steps : goal.invariant-steps
invariant-steps l = record {
  reached : IsReached l.fn.graph l.trace.graph;
  sinks : IsSinking l.fn.graph l.trace.rewrites l.trace.graph;
}

abbrev pub decreases-steps : goal.decreases-steps
decreases-steps l = 2 ^ 32 - l.trace.graph.next
