-- A merge and a step of a given pair of nodes, the least or not.
use Rattle.std.specs.Prelude.{◌≡◌, ◌<◌, ◌≤◌, Option, Some, None}
use Rattle.exec_graph.specs.Wellformed.{most_nodes, total_size}
use Rattle.exec_graph.specs.declared.graph.Graph.{Graph}
use Rattle.sink_laws.specs.Chain.{after_call, after_nest, CanSinkPdo, CanNest}
use Rattle.sink_laws.specs.declared.pair.Pair.{Pair}

-- The graph after the merge of the pair, or none where they cannot be merged.
abbrev pub IsMergedAt : Graph → Pair → Option Graph → Type 0
IsMergedAt g p None = CanNest g p → ⊥
IsMergedAt g p (Some h) = CanNest g p × (h ≡ after_nest g p)

-- The graph after the step on the pair, or none where that is no Flatten with a Pdo that reads it,
-- or there would be too many nodes.
abbrev pub IsSunkAt : Graph → Pair → Option Graph → Type 0
IsSunkAt g p None = CanSinkPdo g p → most_nodes < total_size (after_call g p).nodes
IsSunkAt g p (Some h) =
    CanSinkPdo g p × (total_size (after_call g p).nodes ≤ most_nodes) × (h ≡ after_call g p)
