use Rattle.std.proofs.Common.{◌≡◌, ◌++◌, drop}
use Rattle.forest_steps.specs.inner.Sizes.{branches_sizes}
use Rattle.forest_steps.proofs.sizes.sizes_of.Given as goal

abbrev pub invariant-loop-step : goal.invariant-loop-step
invariant-loop-step l =
    l.sizes.items ++ branches_sizes (drop l.step-index l.step-items) ≡ branches_sizes l.step-items
