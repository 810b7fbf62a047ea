-- Two Pdos exchange their numbers, so that what comes of both has the lesser of them.
use Rattle.std.specs.Prelude.{ℕ, ◌==◌, cond, map}
use Rattle.graph_bounds.specs.of_exec_graph.Forests.{Forest}
use Rattle.graph_bounds.specs.of_exec_graph.Meaning.{place}
use Rattle.graph_bounds.specs.of_exec_graph.declared.graph.Place.{Place}
use Rattle.graph_bounds.specs.of_exec_graph.declared.graph.Node.TheVariants.{Pdo}
use Rattle.graph_bounds.specs.of_exec_graph.declared.graph.Graph.{Graph}
use Rattle.graph_bounds.specs.of_graph_laws.Joining.{reread_entry, set_node}

-- p in place of q, and q in place of p
abbrev pub other_number : ℕ → ℕ → ℕ → ℕ
other_number p q n = cond (n == p) q (cond (n == q) p n)

-- what was an output of p is that of q, and the other way round
abbrev pub exchanged : ℕ → ℕ → Place → Place
exchanged p q c = place (other_number p q c.node) c.out

-- the Pdos p of c with f and q of d with h have each other's number
abbrev pub swapped : Graph → ℕ → ℕ → Place → Place → Forest → Forest → Graph
swapped g p q c d f h = record {
  nodes = map (reread_entry (exchanged p q)) (set_node (set_node g.nodes p (Pdo d h)) q (Pdo c f));
  outputs = map (exchanged p q) g.outputs;
  next = g.next;
}
