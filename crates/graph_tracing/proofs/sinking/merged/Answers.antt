use Rattle.std.proofs.Common.{sym, ap, ◌∙◌}
use Rattle.sink_laws.specs.Chain.{next_nest}
use Rattle.flatten_sink.proofs.Turning.{merge_lighter, on_way_first, on_way_last, on_way_more}
use Rattle.graph_tracing.proofs.Sinks.{sinks_then}
use Rattle.graph_tracing.proofs.sinking.merged.Goals as goal

pub merges-init : goal.merges-init
merges-init c = record {
  way = on_way_first c.args.trace.graph c.requires;
  sinks = λ g t. t;
}

pub merge-requires-clause-next : goal.merge-requires-clause-next
merge-requires-clause-next c =
    ap next_nest (sym c.as_slice.ensures) ∙ sym c.next_nest.ensures ∙ c.in-Some.is

pub merges-smaller : goal.merges-smaller
merges-smaller c =
    merge_lighter c.merges.invariant.way
    (ap next_nest (sym c.as_slice.ensures) ∙ sym c.next_nest.ensures ∙ c.in-Some.is)
    c.in_ok-trace-in-Some.ensures.graph

pub merges-preserved : goal.merges-preserved
merges-preserved c = record {
  way = on_way_more c.merges.invariant.way
      (ap next_nest (sym c.as_slice.ensures) ∙ sym c.next_nest.ensures ∙ c.in-Some.is)
      c.in_ok-trace-in-Some.ensures.graph;
  sinks = sinks_then c.args.trace c.merges.trace c.in_ok-trace-in-Some.trace
      c.merges.invariant.sinks c.in_ok-trace-in-Some.ensures.sinks;
}

pub returns-in-None-clause-merged : goal.returns-in-None-clause-merged
returns-in-None-clause-merged c =
    on_way_last c.args.trace.graph c.merges.trace.graph c.merges.invariant.way
    (ap next_nest (sym c.as_slice.ensures) ∙ sym c.next_nest.ensures ∙ c.in-None.is)
