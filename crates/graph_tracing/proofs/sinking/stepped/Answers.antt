use Rattle.std.proofs.Common.{refl, sym, ap, subst}
use Rattle.exec_graph.specs.Wellformed.{IsGraphOk}
use Rattle.graph_tracing.specs.declared.trace.Trace.{Trace}
use Rattle.graph_tracing.proofs.Sinks.{more_turned, no_room_left, sunk_at, sunk_ok}
use Rattle.graph_tracing.proofs.sinking.stepped.Goals as goal

pub returns-in-None : goal.returns-in-None
returns-in-None c = (
  no_room_left c.args.trace.graph c.args.call _ c.requires.ok c.requires.merged c.requires.next
      c.in_ok-sink_pair.ensures.sunk c.in-None.is,
  refl,
)

pub merged-requires : goal.merged-requires
merged-requires c =
    subst IsGraphOk (sym (ap (λ (t : Trace). t.graph) c.in_ok-behind-in-Some.ensures))
    (sunk_ok c.args.trace.graph c.in-Some.sunk c.args.call c.requires.ok c.requires.merged
    c.requires.next
    (sunk_at c.args.trace.graph c.in-Some.sunk c.args.call _ c.in_ok-sink_pair.ensures.sunk
    c.in-Some.is))

pub returns-in_ok-next-in-Some : goal.returns-in_ok-next-in-Some
returns-in_ok-next-in-Some c =
    more_turned c.args.trace c.in_ok-behind-in-Some.behind c.in_ok-next-in-Some.next c.args.call
    c.in-Some.sunk c.requires.ok c.requires.merged c.requires.next
    (sunk_at c.args.trace.graph c.in-Some.sunk c.args.call _ c.in_ok-sink_pair.ensures.sunk
    c.in-Some.is)
    (ap (λ (t : Trace). t.graph) c.in_ok-behind-in-Some.ensures)
    (ap (λ (t : Trace). t.rewrites) c.in_ok-behind-in-Some.ensures)
    c.in_ok-next-in-Some.ensures.merged c.in_ok-next-in-Some.ensures.sinks
