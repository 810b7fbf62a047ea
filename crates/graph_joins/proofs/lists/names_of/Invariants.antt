use Rattle.std.proofs.Common.{◌≡◌, ◌++◌, drop}
use Rattle.graph_walks.specs.inner.Numbering.{branches_outs}
use Rattle.graph_joins.proofs.lists.names_of.Given as goal

abbrev pub invariant-loop-step : goal.invariant-loop-step
invariant-loop-step l =
    l.names.items ++ branches_outs (drop l.step-index l.steps) ≡ branches_outs l.steps
