-- What the passes of the optimiser give in order.
use Rattle.std.specs.Prelude.{◌≡◌, ℕ, ◌+◌, List, [], ◌∷◌}
use Rattle.exec_graph.specs.declared.graph.Blocked.{Blocked}
use Rattle.exec_graph.specs.declared.graph.Entry.{Entry}
use Rattle.exec_graph.specs.declared.graph.Graph.{Graph}
use Rattle.exec_graph.specs.declared.graph.Node.{Node}
use Rattle.exec_graph.specs.declared.graph.Node.TheVariants.{Source, Flatten, Pdo, Gbk, Barrier}
use Rattle.exec_plan.specs.declared.plan.Plan.{Plan}
use Rattle.exec_graph.specs.Wellformed.{IsGraphOk}
use Rattle.mscr_form.specs.of_form_laws.Formed.{IsFormed}
use Rattle.mscr_form.specs.of_fusion_blocks.Blocks.{IsBlocked}
use Rattle.graph_bounds.specs.Sources.{AreOfKinds}
use Rattle.combine_lift.specs.of_graph_laws.Lifting.{lifted}
use Rattle.combine_lift.specs.of_graph_laws.Single.{HasNarrowSteps, IsUnfused}
use Rattle.graph_bounds.specs.of_pardo_fuse.Fusing.{fused}
use Rattle.graph_bounds.specs.of_plan_rules.Fitting.{HasSourcesBelow}
use Rattle.flatten_sink.specs.of_sink_laws.Chain.{IsSunk}

-- The graph with its flattens sunk, then its combiners lifted, then its fusion blocks marked by the
-- scales of functions, and then its steps fused.
pub record IsRefined (scales : List ℕ) (g : Graph) (refined : Blocked) : Type 0 where
  pub sunk : Graph
  pub is_sunk : IsSunk g sunk
  pub blocked : Blocked
  pub is_lifted : blocked.graph ≡ lifted sunk
  pub is_blocked : IsBlocked scales blocked
  pub is_fused : refined ≡ fused blocked

-- how many sources a graph has
abbrev pub source_count_at : Node → ℕ
source_count_at (Source r) = 1
source_count_at (Flatten ins) = 0
source_count_at (Pdo c f) = 0
source_count_at (Gbk c o l k) = 0
source_count_at (Barrier ins o l a) = 0

abbrev pub source_count : List Entry → ℕ
source_count [] = 0
source_count (e ∷ es) = source_count_at e.node + source_count es

-- What the passes ask of a graph: that it is well-formed; that each Pdo has one step, as before
-- fusing, of few outputs; that its sources have numbers below their count; and that sources of one
-- number are objects, or none of them is.
pub record CanOptimise (g : Graph) : Type 0 where
  pub ok : IsGraphOk g
  pub unfused : IsUnfused g
  pub narrow : HasNarrowSteps g
  pub sources : HasSourcesBelow (source_count g.nodes) g
  pub kinds : AreOfKinds g

-- The plan that is formed of the graph after all other passes, over as many sources as it has.
pub record IsOptimised (scales : List ℕ) (g : Graph) (p : Plan) : Type 0 where
  pub refined : Blocked
  pub is_refined : IsRefined scales g refined
  pub is_formed : IsFormed (source_count g.nodes) refined p
