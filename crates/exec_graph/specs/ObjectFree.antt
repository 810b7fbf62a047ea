-- Graphs without objects: no source is one, and there is no barrier.
use Rattle.std.specs.Prelude.{◌≡◌, false}
use Rattle.std.specs.List.{AllByRecursion}
use Rattle.exec_graph.specs.declared.graph.Node.{Node}
use Rattle.exec_graph.specs.declared.graph.Node.TheVariants.{Source, Flatten, Pdo, Gbk, Barrier}
use Rattle.exec_graph.specs.declared.graph.Graph.{Graph}

-- The node is no barrier, and no source of an object.
abbrev pub IsNodeFree : Node → Type 0
IsNodeFree (Source r) = r.is_object ≡ false
IsNodeFree (Flatten ins) = Unit {0}
IsNodeFree (Pdo c f) = Unit {0}
IsNodeFree (Gbk c o l k) = Unit {0}
IsNodeFree (Barrier ins o l a) = ⊥

-- No node of the graph gives an object.
abbrev pub IsObjectFree : Graph → Type 0
IsObjectFree g = AllByRecursion (λ e. IsNodeFree e.node) g.nodes
