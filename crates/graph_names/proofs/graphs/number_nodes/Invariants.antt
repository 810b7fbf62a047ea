use Rattle.std.specs.Prelude.{nat_eq}
use Rattle.std.proofs.Common.{◌≡◌, ◌++◌, map, take, drop}
use Rattle.std.specs.HashMap.{get}
use Rattle.exec_graph.specs.declared.graph.Place.{Place}
use Rattle.pardo_fuse.specs.SingleFusing.{new_place}
use Rattle.graph_names.specs.inner.Moves.{place_or}
use Rattle.graph_names.specs.inner.Nodes.{under_numbers}
use Rattle.graph_names.proofs.graphs.number_nodes.Given as goal

abbrev pub invariant-loop-entry : goal.invariant-loop-entry
invariant-loop-entry l = record {
  nodes : take l.entry-index l.entry-items
      ++ map under_numbers (drop l.entry-index l.entry-items)
      ≡ map under_numbers l.initial.entry-items;
  places : (c : Place)
      → place_or (get nat_eq l.places c.node) (new_place (drop l.entry-index l.entry-items) c)
      ≡ new_place l.initial.entry-items c;
}
