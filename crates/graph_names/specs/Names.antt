-- Graphs whose outputs have names, each of one node in the whole graph.
use Rattle.std.specs.Prelude.{ℕ, cond, List, map}
use Rattle.exec_graph.specs.Meaning.{node_at, place}
use Rattle.exec_graph.specs.declared.graph.Entry.{Entry}
use Rattle.exec_graph.specs.declared.graph.Graph.{Graph}
use Rattle.exec_graph.specs.declared.graph.Node.{Node}
use Rattle.exec_graph.specs.declared.graph.Node.TheVariants.{Source, Flatten, Pdo, Gbk, Barrier}
use Rattle.exec_graph.specs.declared.graph.Place.{Place}
use Rattle.graph_laws.specs.Joining.{reread}
use Rattle.graph_laws.specs.Kids.{named_by}
use Rattle.pardo_fuse.specs.Fusing.{finished_entry}
use Rattle.pardo_fuse.specs.Parting.{part_number}
use Rattle.pardo_fuse.specs.Readers.{is_pdo}
use Rattle.pardo_fuse.specs.SingleFusing.{new_place}

-- an output of a Pdo is told by its name; m is above all numbers of nodes
abbrev pub named_place : List Entry → ℕ → Place → Place
named_place es m c =
    cond (is_pdo (node_at es c.node)) (place (part_number m c.node c.out) 0) c

abbrev pub with_names : ℕ → ℕ → Node → Node
with_names m n (Source s) = Source s
with_names m n (Flatten ins) = Flatten ins
with_names m n (Pdo c f) = Pdo c (named_by (part_number m n) f)
with_names m n (Gbk c o l k) = Gbk c o l k
with_names m n (Barrier ins o l a) = Barrier ins o l a

abbrev pub named_entry : List Entry → ℕ → Entry → Entry
named_entry es m e = record {
  number = e.number;
  node = reread (named_place es m) (with_names m e.number e.node);
}

abbrev pub named : Graph → Graph
named g = record {
  nodes = map (named_entry g.nodes g.next) g.nodes;
  outputs = map (named_place g.nodes g.next) g.outputs;
  next = g.next;
}

-- each forest is numbered from 0 on, and what is read is told by node and number
abbrev pub unnamed : Graph → Graph
unnamed h = record {
  nodes = map (finished_entry (new_place h.nodes)) h.nodes;
  outputs = map (new_place h.nodes) h.outputs;
  next = h.next;
}
