-- What is read is told by a rule, and by another that gives the same.
use Rattle.std.proofs.Common.{◌≡◌, ℕ, List, [], ◌∷◌, map, refl, ap₂}
use Rattle.exec_graph.specs.declared.graph.Entry.{Entry}
use Rattle.exec_graph.specs.declared.graph.Graph.{Graph}
use Rattle.exec_graph.specs.declared.graph.Node.{Node}
use Rattle.exec_graph.specs.declared.graph.Place.{Place}
use Rattle.exec_graph.proofs.Entries.{entry}
use Rattle.graph_laws.specs.Joining.{reread_entry}
use Rattle.graph_walks.proofs.Rereads.{places_same, reread_same}
use Rattle.pardo_fuse.specs.SingleFusing.{new_place}
use Rattle.graph_names.specs.Names.{named, named_place, unnamed}
use Rattle.graph_names.specs.inner.Nodes.{moved_by, under_names, under_numbers}

-- nodes that are changed before they are told by the rule
nodes_moved : (r s : Place → Place) → ((c : Place) → r c ≡ s c) → (k : Entry → Entry)
    → (es : List Entry) → map (reread_entry r) (map k es) ≡ map (λ e. reread_entry s (k e)) es
nodes_moved r s e k [] = refl
nodes_moved r s e k (d ∷ ds) =
    ap₂ (λ (x : Node) (l : List Entry). entry (k d).number x ∷ l) (reread_same r s e (k d).node)
    (nodes_moved r s e k ds)

abbrev graph_of : List Entry → List Place → ℕ → Graph
graph_of es cs n = record { nodes = es; outputs = cs; next = n }

pub named_moved : (g : Graph) (r : Place → Place)
    → ((c : Place) → r c ≡ named_place g.nodes g.next c)
    → moved_by r (record {
      nodes = map (under_names g.next) g.nodes;
      outputs = g.outputs;
      next = g.next;
    }) ≡ named g
named_moved g r e =
    ap₂ (λ (es : List Entry) (cs : List Place). graph_of es cs g.next)
    (nodes_moved r (named_place g.nodes g.next) e (under_names g.next) g.nodes)
    (places_same r (named_place g.nodes g.next) e g.outputs)

pub unnamed_moved : (h : Graph) (r : Place → Place)
    → ((c : Place) → r c ≡ new_place h.nodes c)
    → moved_by r (record {
      nodes = map under_numbers h.nodes;
      outputs = h.outputs;
      next = h.next;
    }) ≡ unnamed h
unnamed_moved h r e =
    ap₂ (λ (es : List Entry) (cs : List Place). graph_of es cs h.next)
    (nodes_moved r (new_place h.nodes) e under_numbers h.nodes)
    (places_same r (new_place h.nodes) e h.outputs)
