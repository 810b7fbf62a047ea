use Rattle.std.proofs.Common.{sym, ap, ◌∙◌}
use Rattle.exec_graph.specs.declared.graph.Graph.{Graph}
use Rattle.graph_laws.specs.Joining.{beside}
use Rattle.graph_rewrites.specs.Rewrites.{forest_at, input_at}
use Rattle.graph_joins.proofs.Keeping.{session_ascends}
use Rattle.graph_tracing.specs.inner.Callers.{first_caller}
use Rattle.graph_tracing.specs.inner.Named.{trace_of}
use Rattle.graph_tracing.proofs.Firsts.{first_taken}
use Rattle.graph_tracing.proofs.Keepers.{keeper_none, keeper_some}
use Rattle.graph_tracing.proofs.Siblings.{sibling_goes, sibling_left, sibling_taken}
use Rattle.graph_tracing.proofs.Under.{pair_back}
use Rattle.graph_tracing.proofs.pairing.next_sibling.Goals as goal

pub after_sibling-requires-clause-pair : goal.after_sibling-requires-clause-pair
after_sibling-requires-clause-pair c =
    let k = keeper_some c.args.trace.joins.graph c.args.number c.in-Some.keeper
    (session_ascends c.args.trace.joins c.requires.session)
    (sym c.keeper_of.ensures ∙ c.in-Some.is) in
    record { less = k.0; can = k.1 }

pub returns-in_ok-next-in-Some-clause-firsts : goal.returns-in_ok-next-in-Some-clause-firsts
returns-in_ok-next-in-Some-clause-firsts c = λ d lt.
    let h = c.args.trace.joins.graph in
    let p = c.in-Some.keeper in
    let q = c.args.number in
    let k = keeper_some h q p (session_ascends c.args.trace.joins c.requires.session)
    (sym c.keeper_of.ensures ∙ c.in-Some.is) in
    c.requires.firsts d lt
    ∙ sym (ap (λ (g : Graph). first_caller d g.nodes) c.in_ok-next-in-Some.ensures.joins
    ∙ first_taken d (input_at h p) h.nodes p q (forest_at h p) (forest_at h q)
    (beside (forest_at h p) (forest_at h q))
    (session_ascends c.args.trace.joins c.requires.session) k.0 k.1.keeper k.1.other)

pub returns-in_ok-next-in-Some-clause-traced : goal.returns-in_ok-next-in-Some-clause-traced
returns-in_ok-next-in-Some-clause-traced c =
    let k = keeper_some c.args.trace.joins.graph c.args.number c.in-Some.keeper
    (session_ascends c.args.trace.joins c.requires.session)
    (sym c.keeper_of.ensures ∙ c.in-Some.is) in
    sibling_goes (trace_of c.args.trace) (trace_of c.in_ok-next-in-Some.next) c.in-Some.keeper
    c.args.number k.0 c.in_ok-next-in-Some.ensures.can c.in_ok-next-in-Some.ensures.graph
    c.in_ok-next-in-Some.ensures.rewrites

pub returns-in_ok-next-in-Some-clause-whole : goal.returns-in_ok-next-in-Some-clause-whole
returns-in_ok-next-in-Some-clause-whole c = λ m f ns all apart u.
    let k = keeper_some c.args.trace.joins.graph c.args.number c.in-Some.keeper
    (session_ascends c.args.trace.joins c.requires.session)
    (sym c.keeper_of.ensures ∙ c.in-Some.is) in
    sibling_taken (trace_of c.args.trace) (trace_of c.in_ok-next-in-Some.next) m
    c.in-Some.keeper c.args.number ns all f c.in_ok-next-in-Some.ensures.can k.0 apart
    c.in_ok-next-in-Some.ensures.graph c.in_ok-next-in-Some.ensures.rewrites u

pub returns-in-None-clause-whole : goal.returns-in-None-clause-whole
returns-in-None-clause-whole c = λ m f ns all apart u.
    sibling_left f (trace_of c.args.trace) m c.args.number ns all
    (λ p less can. keeper_none c.args.trace.joins.graph c.args.number p
    (session_ascends c.args.trace.joins c.requires.session)
    (sym c.keeper_of.ensures ∙ c.in-None.is) less
    (pair_back c.args.trace.joins.graph p c.args.number c.requires.session.stands can)) u
