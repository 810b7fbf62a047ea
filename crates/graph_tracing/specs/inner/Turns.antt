-- One more step, with the merges that follow it, or the end.
use Rattle.std.specs.Prelude.{◌≡◌, None}
use Rattle.exec_graph.specs.declared.graph.Graph.{Graph}
use Rattle.flatten_sink.specs.inner.Turns.{IsStepped}
use Rattle.sink_laws.specs.Chain.{next_graph}
use Rattle.graph_tracing.specs.Sinks.{IsSinking}
use Rattle.graph_tracing.specs.declared.sinking.Turn.{Turn}
use Rattle.graph_tracing.specs.declared.sinking.Turn.TheVariants.{More, Last}
use Rattle.graph_tracing.specs.declared.trace.Trace.{Trace}

-- What was sunk so far is now, by some rewrites more.
abbrev pub SinksOn : Trace → Trace → Type 0
SinksOn old new =
    (g : Graph) → IsSinking g old.rewrites old.graph → IsSinking g new.rewrites new.graph

abbrev pub IsTurned : Trace → Turn → Type 0
IsTurned t (More next) = IsStepped t.graph next.graph × SinksOn t next
IsTurned t (Last rewrites) = (next_graph t.graph ≡ None) × (rewrites ≡ t.rewrites)
