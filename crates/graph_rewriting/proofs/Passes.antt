-- The test of marks passes exactly where they may be made.
use Rattle.std.proofs.Common.{◌≡◌, ℕ, true, Option, Some, None, refl, ap, ◌∙◌}
use Rattle.std.proofs.lemmas.Bool.{false≢true}
use Rattle.exec_graph.specs.Meaning.{gives_at, node_at, place}
use Rattle.exec_graph.specs.declared.graph.Graph.{Graph}
use Rattle.exec_graph.specs.declared.graph.Node.{Node}
use Rattle.exec_graph.specs.declared.graph.Node.TheVariants.{Pdo, Gbk}
use Rattle.fusion_blocks.specs.Blocks.{CanMark, takes_mark}
use Rattle.graph_rewriting.specs.inner.Tests.{can_mark}

module _ (g : Graph) (n j : ℕ) where
  mark_at : (o : Option Node) → node_at g.nodes n ≡ o → can_mark o j ≡ true
      → CanMark g (place n j)
  mark_at (Some (Pdo c f)) e h = record {
    there = ap (λ (o : Option Node). gives_at o j) e ∙ h;
    kind = ap takes_mark e;
  }
  mark_at (Some (Gbk c o l None)) e h = record {
    there = ap (λ (o : Option Node). gives_at o j) e ∙ h;
    kind = ap takes_mark e;
  }
  mark_at _ e h = absurd (false≢true h)

  pub mark_passes : can_mark (node_at g.nodes n) j ≡ true → CanMark g (place n j)
  mark_passes h = mark_at (node_at g.nodes n) refl h

  at_mark : (o : Option Node) → gives_at o j ≡ true → takes_mark o ≡ true
      → can_mark o j ≡ true
  at_mark (Some (Pdo c f)) t k = t
  at_mark (Some (Gbk c o l None)) t k = t
  at_mark _ t k = absurd (false≢true k)

  pub passes_mark : CanMark g (place n j) → can_mark (node_at g.nodes n) j ≡ true
  passes_mark can = at_mark (node_at g.nodes n) can.there can.kind
