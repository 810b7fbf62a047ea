use Rattle.std.proofs.Common.{◌++◌, sym, ap, ◌∙◌}
use Rattle.plan_writing.proofs.Branching.{branches_all, branches_next, kids_ended, piece_pushed}
use Rattle.plan_writing.proofs.forests.+push.Goals as goal

pub push_output-loop-i-preserved : goal.push_output-loop-i-preserved
push_output-loop-i-preserved g t c =
    branches_next (g.N.Names.naming c.args.names.now) c.loop-i.text.items
    c.extend_from_slice-in-loop-i.new.self.items c.push_step.new.text.items _
    c.deref-kid-items.result.now c.loop-i.i c.kid-item.result c.loop-i-test.true c.kid-item.is
    (c.in_ok-extend_from_slice-2.ensures.items
    ∙ ap (λ space. c.loop-i.text.items ++ space) c.space_before.ensures)
    c.in_ok-push_step.ensures c.loop-i.invariant

pub push_output-returns : goal.push_output-returns
push_output-returns g t c =
    let filled
    = branches_all (g.N.Names.naming c.args.names.now) c.loop-i.text.items _
    c.deref-kid-items.result.now c.loop-i.i c.loop-i-test.false c.loop-i.invariant in
    piece_pushed c.extend_from_slice-2.result c.extend_from_slice-2.new.self.items
    c.loop-i.text.items _ _ _ c.extend_from_slice-2.ensures.items
    (kids_ended (g.N.Names.naming c.args.names.now) c.args.which c.args.output.now
    c.deref-kid-items.result.now c.args.text.now.items c.push_choice.new.text.items
    c.push_kept.new.text.items c.extend_from_slice.new.self.items c.loop-i.text.items
    c.deref-kid-items.ensures.value (sym c.is_bare.ensures ∙ c.if-is_bare.false)
    c.in_ok-push_choice.ensures c.in_ok-push_kept.ensures
    c.in_ok-extend_from_slice.ensures.items filled)
