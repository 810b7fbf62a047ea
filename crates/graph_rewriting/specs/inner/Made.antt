-- What a rewrite makes of a graph, whatever its marks.
use Rattle.std.specs.Prelude.{◌≡◌, [], Option, Some, None}
use Rattle.exec_graph.specs.declared.graph.Blocked.{Blocked}
use Rattle.exec_graph.specs.declared.graph.Graph.{Graph}
use Rattle.graph_rewrites.specs.Rewrites.{CanApply, rewritten}
use Rattle.graph_rewrites.specs.declared.rewrite.Rewrite.{Rewrite}

abbrev pub unmarked : Graph → Blocked
unmarked g = record { graph = g; marks = [] }

-- the graph after the rewrite, or none where it may not be made
abbrev pub IsMade : Graph → Rewrite → Option Graph → Type 0
IsMade g r None = CanApply (unmarked g) r → ⊥
IsMade g r (Some h) = CanApply (unmarked g) r × (h ≡ rewritten g r)
