-- A Pdo takes in another one, where nodes that are taken out keep their place.
use Rattle.std.specs.Prelude.{ℕ, List, []}
use Rattle.exec_graph.specs.Forests.{Forest}
use Rattle.exec_graph.specs.declared.graph.Entry.{Entry}
use Rattle.exec_graph.specs.declared.graph.Node.TheVariants.{Flatten, Pdo}
use Rattle.exec_graph.specs.declared.graph.Place.{Place}
use Rattle.graph_laws.specs.Joining.{set_node}

-- q is a Flatten of nothing, and p a Pdo of c with the forest
abbrev pub taken_over : List Entry → ℕ → ℕ → Place → Forest → List Entry
taken_over es p q c f = set_node (set_node es q (Flatten [])) p (Pdo c f)
