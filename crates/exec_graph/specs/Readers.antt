-- Who reads a collection.
use Rattle.std.specs.Prelude.{ℕ, ◌==◌, ◌&&◌, ◌||◌, Bool, false, cond, List, [], ◌∷◌}
use Rattle.std.specs.List.{list_any}
use Rattle.exec_graph.specs.declared.graph.Place.{Place}
use Rattle.exec_graph.specs.declared.graph.Node.{Node}
use Rattle.exec_graph.specs.declared.graph.Node.TheVariants.{Source, Flatten, Pdo, Gbk, Barrier}
use Rattle.exec_graph.specs.declared.graph.Entry.{Entry}
use Rattle.exec_graph.specs.declared.graph.Graph.{Graph}

abbrev pub same_place : Place → Place → Bool
same_place c d = (c.node == d.node) && (c.out == d.out)

abbrev pub among : Place → List Place → Bool
among c ds = list_any (same_place c) ds

-- whether the node is a Pdo that reads c
abbrev pub calls_on : Place → Node → Bool
calls_on c (Source r) = false
calls_on c (Flatten ins) = false
calls_on c (Pdo d f) = same_place c d
calls_on c (Gbk d o l k) = false
calls_on c (Barrier ins o l a) = false

-- whether the node reads c, and is no Pdo
abbrev pub collects : Place → Node → Bool
collects c (Source r) = false
collects c (Flatten ins) = among c ins
collects c (Pdo d f) = false
collects c (Gbk d o l k) = same_place c d
collects c (Barrier ins o l a) = among c ins

abbrev pub any_node : (Node → Bool) → List Entry → Bool
any_node t es = list_any (λ e. t e.node) es

-- the numbers of the nodes that pass a test, in their order
abbrev pub those : (Node → Bool) → List Entry → List ℕ
those t [] = []
those t (e ∷ es) = cond (t e.node) (e.number ∷ those t es) (those t es)

-- the Pdos that read c, in the order of the nodes
abbrev pub readers : List Entry → Place → List ℕ
readers es c = those (calls_on c) es

-- whether the node reads c
abbrev pub uses : Place → Node → Bool
uses c x = calls_on c x || collects c x

-- whether a script output reads c, or a node that is no Pdo
abbrev pub is_held : Graph → Place → Bool
is_held g c = any_node (collects c) g.nodes || among c g.outputs

-- whether a node or a script output reads c
abbrev pub is_read : Graph → Place → Bool
is_read g c = any_node (uses c) g.nodes || among c g.outputs
