use Rattle.std.proofs.Common.{ℕ, true, drop, List}
use Rattle.exec_graph.specs.declared.graph.Graph.{Graph}
use Rattle.graph_joins.specs.Sessions.{IsSession}
use Rattle.graph_rewrites.specs.declared.rewrite.Rewrite.{Rewrite}
use Rattle.graph_tracing.specs.Traces.{GoesOn}
use Rattle.graph_tracing.specs.inner.Callers.{HasFirsts}
use Rattle.graph_tracing.specs.inner.Named.{trace_of}
use Rattle.graph_tracing.specs.inner.Waiting.{AreApart, IsUnderway}
use Rattle.graph_tracing.proofs.pairing.all_siblings.Given as goal

abbrev pub invariant-loop-number : goal.invariant-loop-number
invariant-loop-number l = record {
  session : IsSession l.trace.joins;
  firsts : HasFirsts l.firsts l.trace.joins.graph.nodes;
  traced : GoesOn 2 (trace_of l.initial.trace) (trace_of l.trace);
  whole : (m : Graph) (f : ℕ → ℕ) (all : List Rewrite) → AreApart m
      → IsUnderway true (λ n. n) f (trace_of l.initial.trace) m l.numbers all
      → IsUnderway true (λ n. n) f (trace_of l.trace) m (drop l.number-index l.numbers) all;
}
