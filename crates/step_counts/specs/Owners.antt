-- Whose own bags the outputs of steps are.
use Rattle.std.specs.Prelude.{ℕ, ◌+◌, cond, List, map, Option, Some, None}
use Rattle.exec_graph.specs.Forests.{Forest, Label}
use Rattle.task_lists.specs.Runs.{kept_count, labels_in, labels_of}

-- the script node whose own bag the output is (`is_own`), as a run keeps its number
abbrev pub owner : Label → Option ℕ
owner l = cond l.last (Some (kept_count (l.origin + l.at))) None

-- those of the outputs of a forest, in preorder
abbrev pub owners_in : Forest → List (Option ℕ)
owners_in f = map owner (labels_in f)

-- those of a forest or the identity, which has no steps
abbrev pub owners_of : Option Forest → List (Option ℕ)
owners_of f = map owner (labels_of f)
