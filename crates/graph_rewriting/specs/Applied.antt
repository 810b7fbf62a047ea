-- What is told of a rewrite.
use Rattle.std.specs.Prelude.{◌≡◌, Option, Some, None}
use Rattle.exec_graph.specs.declared.graph.Blocked.{Blocked}
use Rattle.graph_rewrites.specs.Rewrites.{CanApply, applied}
use Rattle.graph_rewrites.specs.declared.rewrite.Rewrite.{Rewrite}

-- the graph with its marks after the rewrite, or none where it may not be made
abbrev pub IsApplied : Blocked → Rewrite → Option Blocked → Type 0
IsApplied b r None = CanApply b r → ⊥
IsApplied b r (Some d) = CanApply b r × (d ≡ applied b r)
