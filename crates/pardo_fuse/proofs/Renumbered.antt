-- A graph whose nodes have other numbers, which keep nodes apart, is as good as it was; where they
-- are not greater, it is as well-formed.
use Rattle.std.proofs.Common.{◌≡◌, ℕ, ◌<◌, ◌≤◌, List, map, Some, sym, ap, ◌∙◌, arith}
use Rattle.std.specs.List.{AllByRecursion as Each}
use Rattle.std.proofs.lemmas.List.Folds.{flat_map-map}
use Rattle.flume_value.proofs.EachLemmas.{Each-weaker}
use Rattle.exec_graph.specs.of_flume_collection.Sets.{gather}
use Rattle.exec_graph.specs.Meaning.{AllDiffer, IsSound, node_at}
use Rattle.exec_graph.specs.declared.graph.Entry.{Entry}
use Rattle.exec_graph.specs.declared.graph.Graph.{Graph}
use Rattle.exec_graph.proofs.Entries.{all_found, all_map, flat_map_alike}
use Rattle.exec_graph.proofs.Solving.{each_found}
use Rattle.graph_laws.proofs.Kids.{IsKept}
use Rattle.pardo_fuse.specs.Renumbering.{entries_in_order, renumbered_entry, renumbered_graph}
use Rattle.pardo_fuse.proofs.Carried.{IsMoved, moved_kept}
use Rattle.pardo_fuse.proofs.OtherNumbers.{AreApart, former, moved_at, moved_differ, moved_size}
use Rattle.pardo_fuse.proofs.Sorting.{order_all, order_ascends, order_at, order_differ, order_size, order_sum}

module _ (g : Graph) (l : ℕ → ℕ) (ok : IsSound g) (apart : AreApart l g.nodes) where
  abbrev moved : List Entry
  moved = map (renumbered_entry l) g.nodes

  abbrev IsAt : Entry → Type 0
  IsAt e = node_at g.nodes e.number ≡ Some e.node

  all_at : Each IsAt g.nodes
  all_at = each_found g.nodes ok.differ

  differ_moved : AllDiffer moved
  differ_moved = moved_differ l g.nodes g.nodes apart all_at ok.differ

  pub is_moved : IsMoved g l (former l g.nodes) (entries_in_order moved)
  is_moved = record {
    differ = order_differ moved differ_moved;
    back = λ n z at. (moved_at l g.nodes g.nodes apart all_at n z at at).0;
    at_new = λ n z at. order_at moved (l n) differ_moved
        ∙ (moved_at l g.nodes g.nodes apart all_at n z at at).1;
    each_new = λ P h. order_all P moved
        (all_map (renumbered_entry l) IsAt P (λ e at. h e.number e.node at) g.nodes all_at);
    sum = λ s sw F G h b. sym (order_sum s sw (λ (e : Entry). G e.node) moved b
        ∙ ap (λ c. gather s c b)
        (flat_map-map (λ (e : Entry). G e.node) (renumbered_entry l) g.nodes
        ∙ flat_map_alike (λ e. G (renumbered_entry l e).node) (λ (e : Entry). F e.node) g.nodes
        (Each-weaker IsAt (λ e. G (renumbered_entry l e).node ≡ F e.node)
        (λ e at. h e.number e.node at) g.nodes all_at)));
  }

  pub number_kept : ((n : ℕ) → l n ≤ n) → IsKept g (renumbered_graph l g)
  number_kept low =
      let L : Entry → Type 0 = λ e. e.number < g.next in
      moved_kept g l (former l g.nodes) (entries_in_order moved) ok is_moved
      (order_size moved ∙ moved_size l g.nodes)
      (λ good. (
        order_ascends moved differ_moved,
        is_moved.each_new L (λ n z at.
            let less : n < g.next = all_found L g.nodes n z at good.founded.below in
            let most : l n ≤ n = low n in
            let under : l n < g.next = omega arith in under),
      ))
