-- Rewrites that leave each Pdo its steps.
use Rattle.std.proofs.Common.{ℕ, Option}
use Rattle.combine_table.specs.declared.comb.Comb.{Comb}
use Rattle.exec_graph.specs.Forests.{Forest}
use Rattle.exec_graph.specs.declared.graph.Entry.{Entry}
use Rattle.exec_graph.specs.declared.graph.Node.{Node}
use Rattle.exec_graph.specs.declared.graph.Node.TheVariants.{Source}
use Rattle.exec_graph.specs.declared.graph.Graph.{Graph}
use Rattle.exec_graph.proofs.Entries.{all_map}
use Rattle.graph_laws.specs.Lifting.{marked, marked_entry, remarked}
use Rattle.graph_laws.specs.Single.{AllSteps, HasSteps}

module _ (P : Forest → Type 0) where
  steps-marked : (h : Option Comb → Option Comb) (x : Node) → HasSteps P x
      → HasSteps P (marked h x)
  steps-marked h (Source r) a = a
  steps-marked h _ a = a

  pub AllSteps-remarked : (s : ℕ → Option Comb → Option Comb) (g : Graph) → AllSteps P g
      → AllSteps P (remarked s g)
  AllSteps-remarked s g a =
      all_map (marked_entry s) (λ (e : Entry). HasSteps P e.node)
      (λ (e : Entry). HasSteps P e.node)
      (λ e h. steps-marked (s e.number) e.node h) g.nodes a
