-- A Pdo takes in another one.
use Rattle.std.proofs.Common.{◌≡◌, ℕ, List, true, ap, ap₂, ◌∙◌}
use Rattle.exec_graph.specs.Forests.{Forest, Bare}
use Rattle.exec_graph.specs.Meaning.{node_at}
use Rattle.exec_graph.specs.declared.graph.Entry.{Entry}
use Rattle.exec_graph.specs.declared.graph.Graph.{Graph}
use Rattle.exec_graph.specs.declared.graph.Node.{Node}
use Rattle.exec_graph.specs.declared.graph.Node.TheVariants.{Pdo}
use Rattle.exec_graph.specs.declared.graph.Place.{Place}
use Rattle.graph_joining.specs.inner.Refits.{graph_of, with_pdo}
use Rattle.graph_joining.proofs.Passes.{pdo_is}
use Rattle.graph_laws.proofs.Setting.{set_set}
use Rattle.graph_laws.specs.Joining.{without}
use Rattle.graph_laws.proofs.Changes.{node_at-without_other}
use Rattle.graph_laws.proofs.Wellness.{node_at-set_same}
use Rattle.graph_states.specs.of_graph_rewrites.Rewrites.{forest_at, input_at}
use Rattle.graph_states.specs.of_pardo_fuse.Readers.{is_pdo}
use Rattle.graph_states.specs.States.{taken_in}

-- first without steps, and then with some
pub taken_again : (g left h : Graph) (p q : ℕ) (c d : Place) (f i : Forest)
    → left ≡ taken_in g p q c Bare → d ≡ c → i ≡ f → h ≡ with_pdo left p d i
    → h ≡ taken_in g p q c f
taken_again g left h p q c d f i e j k is =
    is ∙ ap₂ (λ (v : Place) (w : Forest). with_pdo left p v w) j k
    ∙ ap (λ (x : Graph). with_pdo x p c f) e
    ∙ ap (λ (l : List Entry). graph_of l g.outputs g.next)
    (set_set (without g.nodes q) p (Pdo c Bare) (Pdo c f))

pub still_pdo : (g left : Graph) (p q : ℕ) (c : Place) → left ≡ taken_in g p q c Bare
    → (p ≡ q → ⊥) → is_pdo (node_at g.nodes p) ≡ true → is_pdo (node_at left.nodes p) ≡ true
still_pdo g left p q c e differ at =
    let y : Node = Pdo (input_at g p) (forest_at g p) in
    ap (λ (x : Graph). is_pdo (node_at x.nodes p)) e
    ∙ ap is_pdo (node_at-set_same (without g.nodes q) p (Pdo c Bare) y
    (node_at-without_other g.nodes q p y differ (pdo_is (node_at g.nodes p) at)))
