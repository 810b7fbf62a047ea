-- What the passes before forming give, with the rewrites that lead to it.
use Rattle.std.specs.Prelude.{◌≡◌, ◌≤◌, ℕ, List, ◌++◌}
use Rattle.std.specs.List.{AllByRecursion}
use Rattle.exec_graph.specs.Readers.{among}
use Rattle.exec_graph.specs.declared.graph.Blocked.{Blocked}
use Rattle.exec_graph.specs.declared.graph.Graph.{Graph}
use Rattle.exec_graph.specs.declared.graph.Place.{Place}
use Rattle.fusion_blocks.specs.Blocks.{unmarked}
use Rattle.graph_laws.specs.Lifting.{lifted}
use Rattle.graph_rewrites.specs.Replays.{Leads, rewrite_group}
use Rattle.graph_rewrites.specs.declared.rewrite.Rewrite.{Rewrite}
use Rattle.graph_tracing.specs.Orders.{AreInOrder}
use Rattle.graph_tracing.specs.Sinks.{AreNext}
use Rattle.plan_check.specs.of_optimise.Optimised.{IsRefined}
use Rattle.sink_laws.specs.Chain.{IsSunk}
use Rattle.plan_tracing.specs.Lists.{lifts_in}

-- the rewrites lead from that group on to the graph, where the same collections are marked
pub record IsMarkedBy (group : ℕ) (g : Graph) (b : Blocked) (rs : List Rewrite) (c : Blocked)
    : Type 0 where
  pub graph : c.graph ≡ b.graph
  pub marks : (d : Place) → among d c.marks ≡ among d b.marks
  pub leads : Leads group rs (unmarked g) c

-- siblings, kids and marks lead from g to the fused graph b with its marks, in order
pub record IsFusedBy (g : Graph) (b : Blocked) (rs : List Rewrite) (c : Blocked) : Type 0 where
  pub marked : IsMarkedBy 2 g b rs c
  pub order : AreInOrder rs

-- First come those that sink g, each the next, then a lift of each group that is lifted, in the
-- order of the nodes, and then siblings, kids and marks, in theirs.
pub record IsPassOrder (g : Graph) (rs : List Rewrite) : Type 0 where
  pub sunk : Graph
  pub is_sunk : IsSunk g sunk
  pub sinks : List Rewrite
  pub are_next : AreNext g sinks sunk
  pub rest : List Rewrite
  pub are_late : AllByRecursion (λ r. 2 ≤ rewrite_group r) rest
  pub order : AreInOrder rest
  pub whole : rs ≡ (sinks ++ lifts_in (lifted sunk).nodes) ++ rest

-- they lead from g to what the optimiser refines it to
pub record IsRefinedBy (scales : List ℕ) (g : Graph) (rs : List Rewrite) (c : Blocked)
    : Type 0 where
  pub refined : Blocked
  pub is_refined : IsRefined scales g refined
  pub marked : IsMarkedBy 0 g refined rs c
  pub order : IsPassOrder g rs
