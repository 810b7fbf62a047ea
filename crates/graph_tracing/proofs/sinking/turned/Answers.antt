use Rattle.std.proofs.Common.{sym, ap, ◌∙◌}
use Rattle.sink_laws.specs.Chain.{next_call}
use Rattle.sink_laws.proofs.Choosing.{next_is_none}
use Rattle.graph_tracing.proofs.sinking.turned.Goals as goal

pub ended-requires : goal.ended-requires
ended-requires c =
    next_is_none c.args.trace.graph c.requires.merged
    (ap next_call (sym c.as_slice.ensures) ∙ sym c.next_call.ensures ∙ c.in-None.is)

pub stepped-requires-clause-next : goal.stepped-requires-clause-next
stepped-requires-clause-next c =
    ap next_call (sym c.as_slice.ensures) ∙ sym c.next_call.ensures ∙ c.in-Some.is
