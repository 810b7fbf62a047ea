use Rattle.std.proofs.Common.{ℕ, drop, List}
use Rattle.exec_graph.specs.declared.graph.Graph.{Graph}
use Rattle.graph_joins.specs.Sessions.{IsSession}
use Rattle.graph_rewrites.specs.declared.rewrite.Rewrite.{Rewrite}
use Rattle.graph_tracing.specs.Traces.{GoesUnder}
use Rattle.graph_tracing.specs.inner.Named.{trace_of}
use Rattle.graph_tracing.specs.inner.Numbers.{KeepsAll, number_in}
use Rattle.graph_tracing.specs.inner.Waiting.{IsLeaving}
use Rattle.graph_tracing.proofs.hanging.all_kids.Given as goal

abbrev pub invariant-loop-number : goal.invariant-loop-number
invariant-loop-number l = record {
  session : IsSession l.kids.trace.joins;
  keeps : KeepsAll (number_in l.kids.numbers);
  traced : GoesUnder (number_in l.initial.kids.numbers) (number_in l.kids.numbers)
      (trace_of l.initial.kids.trace) (trace_of l.kids.trace);
  whole : (m : Graph) (f : ℕ → ℕ) (all : List Rewrite)
      → IsLeaving (number_in l.initial.kids.numbers) f (trace_of l.initial.kids.trace) m l.numbers
      all
      → IsLeaving (number_in l.kids.numbers) f (trace_of l.kids.trace) m
      (drop l.number-index l.numbers) all;
}
