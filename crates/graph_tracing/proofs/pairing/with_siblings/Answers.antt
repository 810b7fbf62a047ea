use Rattle.std.proofs.Common.{[], true, sym, ap, subst, ◌∙◌}
use Rattle.exec_graph.specs.Wellformed.{IsGraphOk}
use Rattle.graph_tracing.specs.Traces.{GoesOn}
use Rattle.graph_tracing.specs.inner.Callers.{first_caller}
use Rattle.graph_tracing.specs.inner.Named.{trace_of}
use Rattle.graph_tracing.specs.inner.Waiting.{IsUnderway}
use Rattle.graph_tracing.specs.declared.trace.Trace.{Trace}
use Rattle.graph_tracing.proofs.Firsts.{first_present}
use Rattle.graph_tracing.proofs.pairing.with_siblings.Goals as goal

pub all_siblings-requires-clause-firsts : goal.all_siblings-requires-clause-firsts
all_siblings-requires-clause-firsts c = λ d lt.
    c.in_ok-firsts.ensures d lt ∙ sym (first_present d c.entries.result.now)
    ∙ ap (first_caller d) c.entries.ensures.present

pub returns-clause-ok : goal.returns-clause-ok
returns-clause-ok c =
    subst (λ (t : Trace). IsGraphOk t.graph) (sym c.in_ok-made.ensures)
    c.in_ok-last.ensures.session.ok

pub returns-clause-traced : goal.returns-clause-traced
returns-clause-traced c =
    subst (λ (t : Trace). GoesOn 2 c.args.trace t) (sym c.in_ok-made.ensures)
    (subst (λ (t : Trace). GoesOn 2 t (trace_of c.in_ok-last.last)) c.in_ok-begun.ensures.same
    c.in_ok-last.ensures.traced)

pub returns-clause-whole : goal.returns-clause-whole
returns-clause-whole c = λ m f all apart u.
    subst (λ (t : Trace). IsUnderway true (λ n. n) f t m [] all) (sym c.in_ok-made.ensures)
    (c.in_ok-last.ensures.whole m f all apart
    (subst (λ (t : Trace). IsUnderway true (λ n. n) f t m c.args.numbers.now all)
    (sym c.in_ok-begun.ensures.same) u))
