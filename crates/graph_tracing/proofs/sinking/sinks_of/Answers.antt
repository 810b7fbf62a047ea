use Rattle.std.proofs.Common.{List, sym, subst}
use Rattle.flatten_sink.proofs.Turning.{step_reached}
use Rattle.graph_rewrites.specs.declared.rewrite.Rewrite.{Rewrite}
use Rattle.graph_tracing.specs.Sinks.{IsSinking}
use Rattle.graph_tracing.specs.inner.Turns.{IsTurned}
use Rattle.graph_tracing.specs.declared.sinking.Turn.TheVariants.{More, Last}
use Rattle.graph_tracing.proofs.Sinks.{ended_at, none_sunk}
use Rattle.graph_tracing.proofs.sinking.sinks_of.Goals as goal

pub steps-init : goal.steps-init
steps-init c = record {
  reached = c.in_ok-trace.ensures.merged.reached;
  sinks = c.in_ok-trace.ensures.sinks c.args.graph (none_sunk c.args.graph _ c.new.ensures);
}

pub steps-preserved : goal.steps-preserved
steps-preserved c =
    let t : IsTurned c.steps.trace (More c.in-More.next) =
    subst (IsTurned c.steps.trace) c.in-More.is c.in_ok-next.ensures in
    record {
      reached = step_reached c.args.graph c.steps.trace.graph c.in-More.next.graph
          c.steps.invariant.reached t.0;
      sinks = t.1 c.args.graph c.steps.invariant.sinks;
    }

pub returns-in-Last : goal.returns-in-Last
returns-in-Last c = λ h sunk.
    let t : IsTurned c.steps.trace (Last c.in-Last.rewrites) =
    subst (IsTurned c.steps.trace) c.in-Last.is c.in_ok-next.ensures in
    subst (λ (rs : List Rewrite). IsSinking c.args.graph rs h) (sym t.1)
    (ended_at c.args.graph c.steps.trace.graph h c.steps.trace.rewrites c.steps.invariant.reached
    t.0 c.steps.invariant.sinks sunk)
