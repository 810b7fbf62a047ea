-- Rewrites one after another: where they lead, and where they stop.
use Rattle.std.specs.Prelude.{◌≡◌, ◌⊎◌, ℕ, ◌+◌, ◌≤◌, List, [], ◌∷◌}
use Rattle.std.specs.List.{AllByRecursion}
use Rattle.graph_bounds.specs.of_exec_graph.declared.graph.Blocked.{Blocked}
use Rattle.graph_bounds.specs.of_exec_graph.declared.graph.Graph.{Graph}
use Rattle.graph_bounds.specs.of_plan_rules.Fitting.{IsNarrow}
use Rattle.graph_rewrites.specs.Rewrites.{CanApply, applied}
use Rattle.graph_rewrites.specs.declared.rewrite.Rewrite.{Rewrite}
use Rattle.graph_rewrites.specs.declared.rewrite.Rewrite.TheVariants.{Merge, Sink, Lift, Kid, Sibling, Mark}

-- Rewrites come in four groups, one behind the other: merges and steps below Flattens, then lifts,
-- then kids and siblings, and then marks.
abbrev pub rewrite_group : Rewrite → ℕ
rewrite_group (Merge outer inner) = 0
rewrite_group (Sink flatten pdo) = 0
rewrite_group (Lift group) = 1
rewrite_group (Kid keeper output reader) = 2
rewrite_group (Sibling keeper other) = 2
rewrite_group (Mark node output) = 3

-- It may be made behind one of that group: it is of no earlier group.
abbrev pub CanFollow : ℕ → Blocked → Rewrite → Type 0
CanFollow group b r = (group ≤ rewrite_group r) × CanApply b r

-- They lead from a to b, behind a rewrite of that group: each may be made where the others before
-- it lead.
abbrev pub Leads : ℕ → List Rewrite → Blocked → Blocked → Type 0
Leads group [] a b = a ≡ b
Leads group (r ∷ rs) a b = CanFollow group a r × Leads (rewrite_group r) rs (applied a r) b

-- The i-th is the first that may not be made, counted from 1.
abbrev pub StopsAt : ℕ → List Rewrite → Blocked → ℕ → Type 0
StopsAt group [] a i = ⊥
StopsAt group (r ∷ rs) a i =
    ((i ≡ 1) × (CanFollow group a r → ⊥))
    ⊎ (CanFollow group a r × ((j : ℕ) × (i ≡ j + 1) × StopsAt (rewrite_group r) rs (applied a r) j))

-- The outputs of each step stand side by side, and are not too many.
abbrev pub HasNarrowForests : Graph → Type 0
HasNarrowForests g = AllByRecursion (λ e. IsNarrow e.node) g.nodes
