-- Two numbers that are exchanged, and what sums become.
use Rattle.std.proofs.Common.{◌≡◌, ℕ, List, Some, sym, ap, ◌∙◌}
use Rattle.std.specs.List.{flat_map}
use Rattle.flume_collection.specs.Sets.{gather}
use Rattle.flume_collection.proofs.Bagging.{Swaps, gather-gather}
use Rattle.graph_bounds.specs.of_exec_graph.Meaning.{node_at}
use Rattle.graph_bounds.specs.of_exec_graph.declared.graph.Node.{Node}
use Rattle.graph_bounds.specs.of_exec_graph.declared.graph.Entry.{Entry}
use Rattle.graph_bounds.proofs.of_exec_graph.Entries.{entry}
use Rattle.graph_bounds.specs.of_graph_laws.Joining.{set_node, without}
use Rattle.graph_bounds.proofs.of_graph_laws.Changes.{node_at-without_other, sum_at, sum_set}
pub use Rattle.graph_bounds.proofs.of_graph_laws.Exchanging.{other_far, other_left, other_right, other_twice}
use Rattle.graph_bounds.proofs.of_graph_laws.Setting.{without_set_other}
use Rattle.graph_bounds.proofs.of_graph_laws.Wellness.{node_at-set_other}

pub sum_swapped : {Y B : Type 0} (s : Y → B → B) → Swaps s → (F : Entry → List Y) (es : List Entry)
    (p q : ℕ) (x y : Node) (b : B) → node_at es p ≡ Some x → node_at es q ≡ Some y
    → (p ≡ q → ⊥) → F (entry p y) ≡ F (entry q y) → F (entry q x) ≡ F (entry p x)
    → gather s (flat_map F es) b
    ≡ gather s (flat_map F (set_node (set_node es p y) q x)) b
sum_swapped s sw F es p q x y b at_p at_q apart e i =
    let once : List Entry = set_node es p y in
    let rest : List Entry = without es q in
    let at_once : node_at once q ≡ Some y =
    node_at-set_other es p q y y (λ j. apart (sym j)) at_q in
    let at_rest : node_at rest p ≡ Some x = node_at-without_other es q p x apart at_p in
    sum_at s sw F es q y b at_q
    ∙ ap (gather s (F (entry q y))) (sum_at s sw F rest p x b at_rest)
    ∙ gather-gather s sw (F (entry q y)) (F (entry p x))
    (gather s (flat_map F (without rest p)) b)
    ∙ ap (λ l. gather s l (gather s (F (entry q y)) (gather s (flat_map F (without rest p)) b)))
    (sym i)
    ∙ ap (λ l. gather s (F (entry q x)) (gather s l (gather s (flat_map F (without rest p)) b)))
    (sym e)
    ∙ ap (gather s (F (entry q x))) (sym (sum_set s sw F rest p y x b at_rest)
    ∙ ap (λ (l : List Entry). gather s (flat_map F l) b) (sym (without_set_other es p q y apart)))
    ∙ sym (sum_set s sw F once q x y b at_once)
