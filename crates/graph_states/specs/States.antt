-- What holds of graphs under names.
use Rattle.std.specs.Prelude.{◌≡◌, ℕ, ◌==◌, Bool, true, false, cond, List}
use Rattle.std.specs.List.{AllByRecursion}
use Rattle.exec_graph.specs.Forests.{Forest, Bare}
use Rattle.exec_graph.specs.Meaning.{AllDiffer, HasOuts, node_at, place, reads}
use Rattle.exec_graph.specs.Readers.{any_node, is_read}
use Rattle.exec_graph.specs.declared.graph.Entry.{Entry}
use Rattle.exec_graph.specs.declared.graph.Graph.{Graph}
use Rattle.exec_graph.specs.declared.graph.Node.TheVariants.{Pdo}
use Rattle.exec_graph.specs.declared.graph.Place.{Place}
use Rattle.graph_laws.specs.Joining.{set_node, without}
use Rattle.fuse_chain.specs.of_pardo_fuse.Fusing.{holds_out}
use Rattle.fuse_chain.specs.of_pardo_fuse.Readers.{is_pdo}

-- a name is followed by 0, and what is no name is of no Pdo
pub record IsFine (hs : List Entry) (y : Place) : Type 0 where
  pub there : any_node (holds_out y.node) hs ≡ true → y.out ≡ 0
  pub other : any_node (holds_out y.node) hs ≡ false → is_pdo (node_at hs y.node) ≡ false

-- each name is of one node, each is read, and what is read is fine
pub record Stands (h : Graph) : Type 0 where
  pub differ : AllDiffer h.nodes
  pub apart : AllByRecursion (λ e. HasOuts e.node) h.nodes
  pub owner : ℕ → ℕ
  pub owned : AllByRecursion (λ e. (i : ℕ) → holds_out i e.node ≡ true → owner i ≡ e.number)
      h.nodes
  pub fine : AllByRecursion (λ e. AllByRecursion (IsFine h.nodes) (reads e.node)) h.nodes
  pub told : AllByRecursion (IsFine h.nodes) h.outputs
  pub read : AllByRecursion (λ e. (i : ℕ) → holds_out i e.node ≡ true
      → is_read h (place i 0) ≡ true) h.nodes

-- Pdo q is gone, and Pdo p of c has the forest; nothing else changes
abbrev pub taken_in : Graph → ℕ → ℕ → Place → Forest → Graph
taken_in h p q c f = record {
  nodes = set_node (without h.nodes q) p (Pdo c f);
  outputs = h.outputs;
  next = h.next;
}

-- what is read once q is gone, of which p needs no steps
abbrev pub still_read : Graph → ℕ → ℕ → Place → ℕ → Bool
still_read h p q c j = is_read (taken_in h p q c Bare) (place j 0)

-- all names but n are kept, and n is or not
abbrev pub all_but : ℕ → Bool → ℕ → Bool
all_but n keep j = cond (j == n) keep true
