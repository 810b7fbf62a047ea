-- Nodes whose outputs have names or numbers, before what they read is told anew.
use Rattle.std.specs.Prelude.{ℕ, map}
use Rattle.exec_graph.specs.declared.graph.Entry.{Entry}
use Rattle.exec_graph.specs.declared.graph.Graph.{Graph}
use Rattle.exec_graph.specs.declared.graph.Place.{Place}
use Rattle.graph_laws.specs.Joining.{reread_entry}
use Rattle.pardo_fuse.specs.Fusing.{with_numbers}
use Rattle.graph_names.specs.Names.{with_names}

abbrev pub under_names : ℕ → Entry → Entry
under_names m e = record { number = e.number; node = with_names m e.number e.node }

abbrev pub under_numbers : Entry → Entry
under_numbers e = record { number = e.number; node = with_numbers e.node }

-- all is read where a rule tells
abbrev pub moved_by : (Place → Place) → Graph → Graph
moved_by r g = record {
  nodes = map (reread_entry r) g.nodes;
  outputs = map r g.outputs;
  next = g.next;
}
