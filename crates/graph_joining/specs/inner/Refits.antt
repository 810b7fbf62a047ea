-- A Pdo in place of a node, where all reads what it read by a rule.
use Rattle.std.specs.Prelude.{ℕ, List, map}
use Rattle.exec_graph.specs.Forests.{Forest, Bare}
use Rattle.exec_graph.specs.declared.graph.Entry.{Entry}
use Rattle.exec_graph.specs.declared.graph.Graph.{Graph}
use Rattle.exec_graph.specs.declared.graph.Node.TheVariants.{Pdo}
use Rattle.exec_graph.specs.declared.graph.Place.{Place}
use Rattle.graph_laws.specs.Joining.{reread_entry, set_node, without}

abbrev pub graph_of : List Entry → List Place → ℕ → Graph
graph_of es cs n = record { nodes = es; outputs = cs; next = n }

-- all reads what it read by a rule
abbrev pub reread_by : (Place → Place) → Graph → Graph
reread_by r g = graph_of (map (reread_entry r) g.nodes) (map r g.outputs) g.next

abbrev pub refitted_by : (Place → Place) → Graph → ℕ → Place → Forest → Graph
refitted_by r g n c f =
    graph_of (map (reread_entry r) (set_node g.nodes n (Pdo c f))) (map r g.outputs) g.next

-- the node n is a Pdo of c with the forest
abbrev pub with_pdo : Graph → ℕ → Place → Forest → Graph
with_pdo g n c f = graph_of (set_node g.nodes n (Pdo c f)) g.outputs g.next

-- the Pdo n of c has no steps, and the node m is gone
abbrev pub parted : Graph → ℕ → ℕ → Place → Graph
parted g n m c = graph_of (set_node (without g.nodes m) n (Pdo c Bare)) g.outputs g.next
