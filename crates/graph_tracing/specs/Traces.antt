-- Rewrites that led from one graph to another.
use Rattle.std.specs.Prelude.{◌≡◌, ℕ, List}
use Rattle.std.specs.List.{AllByRecursion}
use Rattle.exec_graph.specs.declared.graph.Graph.{Graph}
use Rattle.fusion_blocks.specs.Blocks.{unmarked}
use Rattle.graph_rewrites.specs.Replays.{Leads, rewrite_group}
use Rattle.graph_rewrites.specs.declared.rewrite.Rewrite.{Rewrite}
use Rattle.pardo_fuse.specs.Renumbering.{renumbered_graph}
use Rattle.graph_tracing.specs.declared.trace.Trace.{Trace}

-- Rewrites of that group lead from g to h.
pub record IsTrace (group : ℕ) (g : Graph) (rs : List Rewrite) (h : Graph) : Type 0 where
  pub all : AllByRecursion (λ r. rewrite_group r ≡ group) rs
  pub leads : Leads group rs (unmarked g) (unmarked h)

-- What was led to before is led to now, by some rewrites of that group more.
abbrev pub GoesOn : ℕ → Trace → Trace → Type 0
GoesOn group old new =
    (g : Graph) → IsTrace group g old.rewrites old.graph → IsTrace group g new.rewrites new.graph

-- The same of kids, of which the traces tell where they lead under the numbers of parents: they do
-- so for the numbers that nodes have by l, and by m.
abbrev pub GoesUnder : (ℕ → ℕ) → (ℕ → ℕ) → Trace → Trace → Type 0
GoesUnder l m old new =
    (g : Graph) → IsTrace 2 g old.rewrites (renumbered_graph l old.graph)
    → IsTrace 2 g new.rewrites (renumbered_graph m new.graph)
