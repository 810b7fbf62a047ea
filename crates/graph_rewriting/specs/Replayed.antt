-- What is told of rewrites one after another.
use Rattle.std.specs.Prelude.{◌≡◌, ℕ, List, Option, Some, None, Result, Ok, Err}
use Rattle.exec_graph.specs.declared.graph.Blocked.{Blocked}
use Rattle.exec_graph.specs.declared.graph.Graph.{Graph}
use Rattle.fusion_blocks.specs.Blocks.{unmarked}
use Rattle.graph_rewrites.specs.Replays.{CanFollow, Leads, StopsAt}
use Rattle.graph_rewrites.specs.Rewrites.{applied}
use Rattle.graph_rewrites.specs.declared.rewrite.Rewrite.{Rewrite}
use Rattle.graph_rewriting.specs.declared.replaying.ReplayFault.{ReplayFault}
use Rattle.graph_rewriting.specs.declared.replaying.ReplayFault.TheVariants.{Step, Memory}

-- the graph with its marks after the rewrite, or none where it may not be made behind that group
abbrev pub Follows : ℕ → Blocked → Rewrite → Option Blocked → Type 0
Follows group b r None = CanFollow group b r → ⊥
Follows group b r (Some d) = CanFollow group b r × (d ≡ applied b r)

-- what the rewrites lead to, or the first that may not be made
abbrev pub IsReplayed : Graph → List Rewrite → Result Blocked ReplayFault → Type 0
IsReplayed g rs (Ok b) = Leads 0 rs (unmarked g) b
IsReplayed g rs (Err (Step i)) = StopsAt 0 rs (unmarked g) i
IsReplayed g rs (Err Memory) = Unit {0}
