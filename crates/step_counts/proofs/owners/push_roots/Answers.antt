use Rattle.std.proofs.Common.{◌++◌, ap, sym, ◌∙◌}
use Rattle.step_counts.specs.Owners.{owners_in}
use Rattle.step_counts.proofs.Owning.{all_owned, grown_are}
use Rattle.step_counts.proofs.owners.push_roots.Goals as goal

pub returns : goal.returns
returns c =
    let items = c.steps-step-items.result.now in
    all_owned c.loop-step.nodes.items _ items c.loop-step.step-index c.loop-step-test.false
    c.loop-step.invariant
    ∙ ap (λ l. c.args.nodes.now.items ++ l)
    (sym (grown_are items) ∙ ap owners_in c.steps-step-items.ensures)
