use Rattle.std.proofs.Common.{◌≡◌, ◌≤◌, ◌++◌, length, drop, ap, arith, append-nil, sym, ◌∙◌}
use Rattle.forest_steps.specs.inner.Sizes.{branches_sizes}
use Rattle.forest_steps.specs.Places.{sizes_in}
use Rattle.forest_steps.proofs.Sizing.{grown_are}
use Rattle.forest_steps.proofs.Visiting.{drop_past}
use Rattle.forest_steps.proofs.sizes.sizes_of.Goals as goal

pub returns : goal.returns
returns c =
    let items = c.steps-step-items.result.now in
    let end : length items ≤ c.loop-step.step-index = omega (arith, c.loop-step-test.false) in
    let now = c.loop-step.sizes.items in
    let left : now ++ branches_sizes (drop c.loop-step.step-index items) ≡ now =
    ap (λ l. now ++ branches_sizes l) (drop_past items c.loop-step.step-index end)
    ∙ append-nil now in
    sym left ∙ c.loop-step.invariant ∙ sym (grown_are items)
    ∙ ap sizes_in c.steps-step-items.ensures
