-- A graph with the outputs of its steps apart: each output of a Pdo's step is a Pdo of its own, a
-- part, with a step of that one output. The parts read what the Pdo read, one after another.
use Rattle.std.specs.Prelude.{ℕ, ◌+◌, ◌*◌, cond, List, [], ◌∷◌, map, Option, Some}
use Rattle.std.specs.List.{flat_map}
use Rattle.exec_graph.specs.Forests.{Label, Forest, Bare, Grow, new_label}
use Rattle.exec_graph.specs.Meaning.{place, is_out, node_at}
use Rattle.exec_graph.specs.declared.graph.Place.{Place}
use Rattle.exec_graph.specs.declared.graph.Node.{Node}
use Rattle.exec_graph.specs.declared.graph.Node.TheVariants.{Pdo}
use Rattle.exec_graph.specs.declared.graph.Entry.{Entry}
use Rattle.exec_graph.specs.declared.graph.Graph.{Graph}
use Rattle.exec_graph.specs.declared.graph.Blocked.{Blocked}
use Rattle.graph_laws.specs.Joining.{reread}

-- the number of an output's Pdo, by the output's place among those of the step of Pdo n: the first
-- has n, and no two have one number, as all numbers of nodes are below k
abbrev pub part_number : ℕ → ℕ → ℕ → ℕ
part_number k n at = at * k + n

-- the output alone: its number is 0, where it is kept
abbrev pub sole_output : Label → Forest
sole_output l = Grow (new_label 0 l) Bare Bare

abbrev pub parts : ℕ → ℕ → Place → Forest → List Entry
parts k n c Bare = []
parts k n c (Grow l kids rest) =
    record { number = part_number k n l.at; node = Pdo c (sole_output l) } ∷ parts k n c rest

-- what a node becomes
abbrev pub parts_of_node : ℕ → ℕ → Node → List Entry
parts_of_node k n (Pdo c f) = parts k n c f
parts_of_node k n x = record { number = n; node = x } ∷ []

-- the place of the output of that number among those of its step
abbrev pub at_of : ℕ → Forest → ℕ
at_of j Bare = 0
at_of j (Grow l kids rest) = cond (is_out l.out j) l.at (at_of j rest)

-- where a collection is then
abbrev pub part_at : ℕ → Place → Option Node → Place
part_at k c (Some (Pdo d f)) = place (part_number k c.node (at_of c.out f)) 0
part_at k c _ = c

abbrev pub part_place : Graph → Place → Place
part_place g c = part_at g.next c (node_at g.nodes c.node)

abbrev pub parted_nodes : Graph → List Entry
parted_nodes g =
    flat_map (λ e. parts_of_node g.next e.number (reread (part_place g) e.node)) g.nodes

abbrev pub parted_graph : Graph → Graph
parted_graph g = record {
  nodes = parted_nodes g;
  outputs = map (part_place g) g.outputs;
  next = g.next;
}

abbrev pub parted : Blocked → Blocked
parted b = record { graph = parted_graph b.graph; marks = map (part_place b.graph) b.marks }
