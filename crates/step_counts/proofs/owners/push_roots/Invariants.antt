use Rattle.std.proofs.Common.{◌≡◌, ◌++◌, drop}
use Rattle.step_counts.specs.inner.Owned.{branches_owners}
use Rattle.step_counts.proofs.owners.push_roots.Given as goal

abbrev pub invariant-loop-step : goal.invariant-loop-step
invariant-loop-step l =
    l.nodes.items ++ branches_owners (drop l.step-index l.step-items)
    ≡ l.fn.nodes.items ++ branches_owners l.step-items
