use Rattle.std.proofs.Common.{◌≡◌, drop}
use Rattle.exec_graph.specs.Forests.{grown}
use Rattle.forest_steps.specs.Functions.{world_of}
use Rattle.forest_steps.specs.Running.{run}
use Rattle.forest_steps.proofs.visit.visit_steps.Given as goal

abbrev pub invariant-loop-step : goal.invariant-loop-step
invariant-loop-step g l =
    run (world_of (g.F.Functions.called l.functions)) l.sizes l.next
    (grown (drop l.step-index l.steps)) l.x l.outputs
    ≡ run (world_of (g.F.Functions.called l.functions)) l.sizes l.at (grown l.steps) l.x
    l.fn.outputs
