-- A graph under names, and how it was come to, as it is without them.
use Rattle.graph_joins.specs.of_graph_names.Names.{unnamed}
use Rattle.graph_tracing.specs.declared.named.NamedTrace.{NamedTrace}
use Rattle.graph_tracing.specs.declared.trace.Trace.{Trace}

abbrev pub trace_of : NamedTrace → Trace
trace_of t = record { graph = unnamed t.joins.graph; rewrites = t.rewrites }
