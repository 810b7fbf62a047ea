use Rattle.std.proofs.Common.{◌+◌, ◌-◌, drop, get_or, map, sym, ap, ◌∙◌, arith}
use Rattle.std.specs.List.{flat_map}
use Rattle.exec_graph.specs.Forests.{Bare, Branch, Twig, grown, limb}
use Rattle.exec_graph.specs.Twigs.{twig}
use Rattle.pardo_fuse.specs.Readers.{cut_of}
use Rattle.pardo_fuse.specs.Fusing.{least_number, over_outs}
use Rattle.pardo_fuse.specs.inner.Numbers.{members_at}
use Rattle.pardo_fuse.proofs.Leasts.{around, around_done, around_split, least_step, limb_begun, members_none, members_some, outs_left, over_left}
use Rattle.pardo_fuse.proofs.numbers.+least.Goals as goal

pub least_in-returns-then-levels-eq0 : goal.least_in-returns-then-levels-eq0
least_in-returns-then-levels-eq0 t c =
    sym (ap (least_number c.args.so_far)
    (members_none (cut_of c.args.blocked.now) c.args.levels c.args.numbers.now
    c.if-levels-eq0.true))

pub least_in-loop-number-preserved : goal.least_in-loop-number-preserved
least_in-loop-number-preserved t c =
    let b = cut_of c.args.blocked.now in
    let k = c.args.levels - 1 in
    let i = c.loop-number.number-index in
    let ns = c.args.numbers.now in
    least_step c.args.so_far c.loop-number.least c.least_with-least.result
    (flat_map (around b k) ns)
    (flat_map (around b k) (drop i ns)) (around b k (get_or ns i 0))
    (flat_map (around b k) (drop (i + 1) ns)) (around_split b k i ns c.loop-number-test.true)
    c.loop-number.invariant c.least_with-least.ensures

pub least_in-returns : goal.least_in-returns
least_in-returns t c =
    let b = cut_of c.args.blocked.now in
    let k = c.args.levels - 1 in
    let i = c.loop-number.number-index in
    let ns = c.args.numbers.now in
    sym (ap (least_number c.loop-number.least)
    (around_done b k i ns (omega (arith, c.loop-number-test.false))))
    ∙ c.loop-number.invariant
    ∙ ap (least_number c.args.so_far) (sym (members_some b c.args.levels ns (omega arith)))

pub least_with-loop-step-preserved : goal.least_with-loop-step-preserved
least_with-loop-step-preserved t c =
    let b = cut_of c.args.blocked.now in
    let over = members_at b c.args.levels c.args.number in
    let i = c.loop-step.step-index in
    let items = c.steps_at-step-items.result.now in
    let s = c.step-item.result in
    least_step c.args.so_far c.loop-step.least c.least_on-least.result
    (around b c.args.levels c.args.number) (over_outs over (grown (drop i items)))
    (over_outs over (limb s Bare)) (over_outs over (grown (drop (i + 1) items)))
    (over_left over i items s c.loop-step-test.true c.step-item.is) c.loop-step.invariant
    c.least_on-least.ensures

pub least_on-loop-output-init : goal.least_on-loop-output-init
least_on-loop-output-init t c =
    limb_begun (members_at (cut_of c.args.blocked.now) c.args.levels c.args.number)
    c.args.so_far c.least_above-least.result c.step.inside.first.number c.args.step.now
    (map twig c.deref-output-items.result.now) c.least_above-least.ensures
    (ap (λ (b : Branch). b.first.out) c.step.view_is)
    (ap (map twig) c.deref-output-items.ensures.value
    ∙ ap (λ (b : Branch). b.more) c.step.view_is)

pub least_on-loop-output-preserved : goal.least_on-loop-output-preserved
least_on-loop-output-preserved t c =
    let over = members_at (cut_of c.args.blocked.now) c.args.levels c.args.number in
    let i = c.loop-output.output-index in
    let items = c.deref-output-items.result.now in
    let o = c.output-item.result in
    least_step c.args.so_far c.loop-output.least c.least_above-least-in-loop-output.result
    (over_outs over (limb c.args.step.now Bare))
    (flat_map (λ (t : Twig). over t.out) (map twig (drop i items))) (over o.number)
    (flat_map (λ (t : Twig). over t.out) (map twig (drop (i + 1) items)))
    (outs_left over i items o c.loop-output-test.true c.output-item.is)
    c.loop-output.invariant c.least_above-least-in-loop-output.ensures
