use Rattle.std.proofs.Common.{◌≡◌, ◌++◌, eqb, length, List, [], map, rules, inl, refl, sym, ap, subst, ◌∙◌}
use Rattle.std.proofs.lemmas.Bool.{eqb-true}
use Rattle.std.proofs.lemmas.List.{nil_from_length}
use Rattle.exec_graph.specs.Forests.{Branch, grown, label_at, limb, twigs, with_out}
use Rattle.exec_graph.specs.Twigs.{twig}
use Rattle.graph_walks.proofs.Relabeling.{held, step_of, twig_of}
use Rattle.graph_joins.specs.inner.Hangs.{Hangs}
use Rattle.graph_joins.proofs.HangLemmas.{among_steps, among_twigs, on_first, on_kids, on_more, set_here, twigs_here}
use Rattle.graph_joins.proofs.hanging.+hang.Goals as goal

pub hang-returns-clause-hangs : goal.hang-returns-clause-hangs
hang-returns-clause-hangs t c = λ e.
    among_steps c.args.peg.output c.args.peg.keep (grown c.args.others.now.items)
    c.args.steps.now.items _ c.index_mut.result.now c.hang_step.new.step (search rules)
    c.index_mut.ensures.value (c.in_ok-hung.ensures.hangs e)

pub hang-returns-clause-steps : goal.hang-returns-clause-steps
hang-returns-clause-steps t c = λ e.
    set_here c.args.steps.now.items _ c.index_mut.result.now c.hang_step.new.step (search rules)
    c.index_mut.ensures.value (c.in_ok-hung.ensures.step e)

pub hang_step-returns-then-index-eq0-clause-hangs :
    goal.hang_step-returns-then-index-eq0-clause-hangs
hang_step-returns-then-index-eq0-clause-hangs t c = λ e f.
    let b = held c.step.inside in
    let y = twig c.hang_output.new.one in
    subst (λ (x : Branch). Hangs c.args.peg.output c.args.peg.keep (grown c.args.others.now.items)
    (limb x f) (limb (step_of b y b.more) f)) c.step.view_is
    (on_first c.args.peg.output c.args.peg.keep (grown c.args.others.now.items) b y f
    (c.in_ok-hung.ensures.hangs e b 0 (twigs b 1 b.more f)))

pub hang_step-returns-then-index-eq0-clause-step : goal.hang_step-returns-then-index-eq0-clause-step
hang_step-returns-then-index-eq0-clause-step t c = λ e.
    let b = held c.step.inside in
    ap (λ x. step_of b x b.more) (c.in_ok-hung.ensures.one e) ∙ c.step.view_is

pub hang_step-returns-clause-hangs : goal.hang_step-returns-clause-hangs
hang_step-returns-clause-hangs t c = λ e f.
    let b = held c.step.inside in
    let ts = map twig c.hang_outputs.new.outputs.items in
    subst (λ (x : Branch). Hangs c.args.peg.output c.args.peg.keep (grown c.args.others.now.items)
    (limb x f) (limb (step_of b b.first ts) f)) c.step.view_is
    (on_more c.args.peg.output c.args.peg.keep (grown c.args.others.now.items) b ts f
    (c.in_ok-hung-2.ensures.hangs e b 1 f))

pub hang_step-returns-clause-step : goal.hang_step-returns-clause-step
hang_step-returns-clause-step t c = λ e.
    let b = held c.step.inside in
    ap (λ ts. step_of b b.first ts) (c.in_ok-hung-2.ensures.outputs e)
    ∙ c.step.view_is

pub hang_outputs-returns-clause-hangs : goal.hang_outputs-returns-clause-hangs
hang_outputs-returns-clause-hangs t c = λ e s n f.
    among_twigs c.args.peg.output c.args.peg.keep (grown c.args.others.now.items) s n
    c.args.outputs.now.items c.args.index c.index_mut.result.now c.hang_output.new.one f
    (search rules) c.index_mut.ensures.value (λ m r. c.in_ok-hung.ensures.hangs e s m r)

pub hang_outputs-returns-clause-outputs : goal.hang_outputs-returns-clause-outputs
hang_outputs-returns-clause-outputs t c = λ e.
    twigs_here c.args.outputs.now.items c.args.index c.index_mut.result.now
    c.hang_output.new.one (search rules) c.index_mut.ensures.value (c.in_ok-hung.ensures.one e)

pub hang_output-returns-clause-hangs : goal.hang_output-returns-clause-hangs
hang_output-returns-clause-hangs t c = λ e s n f.
    let o = c.args.one.now in
    on_kids c.args.peg.output c.args.peg.keep (grown c.args.others.now.items)
    (label_at s n (twig o))
    (grown o.kids.items) (grown _) f (c.in_ok-hung.ensures.hangs e)

pub hang_output-returns-clause-one : goal.hang_output-returns-clause-one
hang_output-returns-clause-one t c = λ e.
    ap (λ (bs : List Branch). twig_of c.args.one.now.number (grown bs))
    (c.in_ok-hung.ensures.steps e)

pub hang_output-returns-then-rest-eq0-clause-hangs
    : goal.hang_output-returns-then-rest-eq0-clause-hangs
hang_output-returns-then-rest-eq0-clause-hangs t c = λ e s n f.
    let o = c.args.one.now in
    let l = label_at s n (twig o) in
    let none : o.kids.items ≡ [] = nil_from_length o.kids.items (eqb-true
    (length o.kids.items) 0 (sym (c.is_empty.ensures ∙ ap (λ k. eqb k 0) o.kids.ok.0)
    ∙ c.if-not-is_empty.false)) in
    inl (
      sym c.is_out.ensures ∙ c.if-not-is_out.false,
      ap (λ (bs : List Branch). grown bs) none,
      ap (λ out. with_out out l) c.kept_out-one.ensures,
      ap (λ (bs : List Branch). grown bs) (c.in_ok-append.ensures.items
          ∙ ap (λ (bs : List Branch). bs ++ c.args.others.now.items) none),
      refl,
    )
