-- Nodes under other numbers, in ascending order of these.
use Rattle.std.specs.Prelude.{ℕ, ltb, cond, List, [], ◌∷◌, map}
use Rattle.exec_graph.specs.Meaning.{place}
use Rattle.exec_graph.specs.declared.graph.Place.{Place}
use Rattle.exec_graph.specs.declared.graph.Entry.{Entry}
use Rattle.exec_graph.specs.declared.graph.Graph.{Graph}
use Rattle.exec_graph.specs.declared.graph.Blocked.{Blocked}
use Rattle.graph_laws.specs.Joining.{reread}

abbrev pub at_number : (ℕ → ℕ) → Place → Place
at_number l c = place (l c.node) c.out

abbrev pub renumbered_entry : (ℕ → ℕ) → Entry → Entry
renumbered_entry l e = record { number = l e.number; node = reread (at_number l) e.node }

-- a node before the first of a greater number
abbrev pub put_entry : Entry → List Entry → List Entry
put_entry e [] = e ∷ []
put_entry e (d ∷ ds) = cond (ltb e.number d.number) (e ∷ d ∷ ds) (d ∷ put_entry e ds)

abbrev pub entries_in_order : List Entry → List Entry
entries_in_order [] = []
entries_in_order (e ∷ es) = put_entry e (entries_in_order es)

abbrev pub renumbered_graph : (ℕ → ℕ) → Graph → Graph
renumbered_graph l g = record {
  nodes = entries_in_order (map (renumbered_entry l) g.nodes);
  outputs = map (at_number l) g.outputs;
  next = g.next;
}

abbrev pub renumbered : (ℕ → ℕ) → Blocked → Blocked
renumbered l b =
    record { graph = renumbered_graph l b.graph; marks = map (at_number l) b.marks }
