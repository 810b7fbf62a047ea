use Rattle.std.proofs.Common.{ap, ◌∙◌}
use Rattle.graph_tracing.specs.declared.trace.Trace.{Trace}
use Rattle.graph_tracing.proofs.Sinks.{nest_graph, nest_sinks, nest_some}
use Rattle.graph_tracing.proofs.sinking.merge.Goals as goal

pub unwrap-merged-requires : goal.unwrap-merged-requires
unwrap-merged-requires c =
    nest_some c.args.trace.graph c.args.nest c.in_ok-made.made c.requires.ok c.requires.next
    c.in_ok-made.ensures.merged

pub returns-clause-graph : goal.returns-clause-graph
returns-clause-graph c =
    ap (λ (t : Trace). t.graph) c.in_ok-next.ensures
    ∙ nest_graph c.args.trace.graph c.unwrap-merged.result c.args.nest c.in_ok-made.made
    c.in_ok-made.ensures.merged c.unwrap-merged.ensures

pub returns-clause-sinks : goal.returns-clause-sinks
returns-clause-sinks c =
    nest_sinks c.args.trace c.in_ok-next.next c.args.nest c.requires.ok c.requires.next
    (ap (λ (t : Trace). t.graph) c.in_ok-next.ensures
    ∙ nest_graph c.args.trace.graph c.unwrap-merged.result c.args.nest c.in_ok-made.made
    c.in_ok-made.ensures.merged c.unwrap-merged.ensures)
    (ap (λ (t : Trace). t.rewrites) c.in_ok-next.ensures)
