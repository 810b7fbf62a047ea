use Rattle.sink_weights.specs.Weights.{total_weight}
use Rattle.flatten_sink.proofs.Turning.{IsOnWay}
use Rattle.graph_tracing.specs.inner.Turns.{SinksOn}
use Rattle.graph_tracing.proofs.sinking.merged.Given as goal

abbrev pub invariant-merges : goal.invariant-merges
invariant-merges l = record {
  way : IsOnWay l.initial.trace.graph l.trace.graph;
  sinks : SinksOn l.initial.trace l.trace;
}

abbrev pub decreases-merges : goal.decreases-merges
decreases-merges l = total_weight l.trace.graph
