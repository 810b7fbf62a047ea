use Rattle.std.proofs.Common.{◌++◌, sym, ap, ◌∙◌}
use Rattle.plan_writing.proofs.Branching.{branches_all, branches_next, grown_printed}
use Rattle.plan_writing.specs.Forests.{steps_text}
use Rattle.plan_writing.proofs.forests.push_steps.Goals as goal

pub loop-i-preserved : goal.loop-i-preserved
loop-i-preserved g c =
    branches_next (g.N.Names.naming c.args.names.now) c.loop-i.text.items
    c.extend_from_slice.new.self.items c.push_step.new.text.items _
    c.steps-step-items.result.now c.loop-i.i c.step-item.result c.loop-i-test.true c.step-item.is
    (c.in_ok-extend_from_slice.ensures.items
    ∙ ap (λ space. c.loop-i.text.items ++ space) c.space_before.ensures)
    c.in_ok-push_step.ensures c.loop-i.invariant

pub returns : goal.returns
returns g c =
    branches_all (g.N.Names.naming c.args.names.now) c.loop-i.text.items _
    c.steps-step-items.result.now c.loop-i.i c.loop-i-test.false c.loop-i.invariant
    ∙ ap (λ steps. c.args.text.now.items ++ steps)
    (sym (grown_printed (g.N.Names.naming c.args.names.now) _ c.steps-step-items.result.now)
    ∙ ap (steps_text (g.N.Names.naming c.args.names.now) _) c.steps-step-items.ensures)
