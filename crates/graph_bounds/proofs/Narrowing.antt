-- Sinking and lifting leave the steps as wide as they were.
use Rattle.std.proofs.Common.{◌≤◌}
use Rattle.sink_laws.specs.of_exec_graph.declared.graph.Graph.{Graph}
use Rattle.sink_laws.specs.of_graph_laws.Lifting.{lift_of, lifted}
use Rattle.sink_laws.proofs.of_graph_laws.SingleSteps.{AllSteps-remarked}
use Rattle.sink_laws.specs.of_graph_laws.Single.{HasNarrowSteps, most_outputs, width}
use Rattle.sink_laws.specs.Kept.{KeepsSteps}
use Rattle.sink_laws.proofs.TypesKept.{AllSteps-kept}

pub narrow_sunk : (g h : Graph) → KeepsSteps g h → HasNarrowSteps g → HasNarrowSteps h
narrow_sunk g h k n = AllSteps-kept (λ f. width f ≤ most_outputs) g h k n

pub narrow_lifted : (g : Graph) → HasNarrowSteps g → HasNarrowSteps (lifted g)
narrow_lifted g n = AllSteps-remarked (λ f. width f ≤ most_outputs) (λ n k. lift_of g n) g n
