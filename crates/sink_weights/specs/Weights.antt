-- What is read weighs less after each merge and each step.
use Rattle.std.specs.Prelude.{ℕ, ◌+◌, ◌*◌, ◌==◌, ◌||◌, Bool, cond, List, [], ◌∷◌, length, Option, Some, None}
use Rattle.std.proofs.Common.{zero, suc}
use Rattle.std.specs.List.{list_any}
use Rattle.sink_laws.specs.of_exec_graph.Meaning.{node_at, reads}
use Rattle.sink_laws.specs.of_exec_graph.Readers.{any_node}
use Rattle.sink_laws.specs.of_exec_graph.declared.graph.Place.{Place}
use Rattle.sink_laws.specs.of_exec_graph.declared.graph.Node.{Node}
use Rattle.sink_laws.specs.of_exec_graph.declared.graph.Node.TheVariants.{Source, Flatten, Pdo, Gbk, Barrier}
use Rattle.sink_laws.specs.of_exec_graph.declared.graph.Entry.{Entry}
use Rattle.sink_laws.specs.of_exec_graph.declared.graph.Graph.{Graph}

-- ---- nodes

-- The weights of the nodes that give these collections, together.
abbrev pub weights_at : (ℕ → ℕ) → List Place → ℕ
weights_at m [] = 0
weights_at m (c ∷ cs) = m c.node + weights_at m cs

-- A source weighs 1, a Gbk what its input does, a Pdo twice what its input does, and a Flatten or a
-- barrier one more than its inputs together.
abbrev pub node_weight : (ℕ → ℕ) → Node → ℕ
node_weight m (Source r) = 1
node_weight m (Flatten ins) = 1 + weights_at m ins
node_weight m (Pdo c f) = 2 * m c.node
node_weight m (Gbk c o l k) = m c.node
node_weight m (Barrier ins o l a) = 1 + weights_at m ins

abbrev pub weight_at : (ℕ → ℕ) → Option Node → ℕ
weight_at m None = 0
weight_at m (Some x) = node_weight m x

-- The weights that some turns reach.
unfoldable pub weight_in : List Entry → ℕ → ℕ → ℕ
weight_in es zero n = 0
weight_in es (suc turns) n = weight_at (weight_in es turns) (node_at es n)

-- As many turns as there are nodes are enough.
unfoldable pub weight : List Entry → ℕ → ℕ
weight es n = weight_in es (suc (length es)) n

-- ---- graphs

-- Whether one of these collections is an output of node n.
abbrev pub is_of : ℕ → List Place → Bool
is_of n cs = list_any (λ c. c.node == n) cs

-- Whether a node or a script output reads an output of node n.
abbrev pub is_node_read : Graph → ℕ → Bool
is_node_read g n = any_node (λ x. is_of n (reads x)) g.nodes || is_of n g.outputs

-- The weights of those of the nodes that nothing reads, together.
abbrev pub unread_weight : (ℕ → ℕ) → Graph → List Entry → ℕ
unread_weight m g [] = 0
unread_weight m g (e ∷ es) =
    cond (is_node_read g e.number) 0 (m e.number) + unread_weight m g es

-- The weights of the script outputs and of the nodes that nothing reads, together.
unfoldable pub total_weight : Graph → ℕ
total_weight g =
    weights_at (weight g.nodes) g.outputs + unread_weight (weight g.nodes) g g.nodes
