-- What comes of a graph whose steps have their outputs apart is well-formed, with its marks.
use Rattle.std.proofs.Common.{◌≡◌, ℕ, ◌<◌, true, false, List, map, Some, refl, sym, ap, ◌∙◌, subst, arith}
use Rattle.std.proofs.lemmas.List.Folds.{flat_map-map}
use Rattle.std.specs.List.{flat_map, AllByRecursion}
use Rattle.flume_value.proofs.EachLemmas.{Each-weaker, Each-both}
use Rattle.exec_graph.specs.Forests.{Forest, Bare, Grow}
use Rattle.exec_graph.specs.Meaning.{node_at, IsThere}
use Rattle.exec_graph.specs.Objects.{takes_such}
use Rattle.exec_graph.specs.Wellformed.{Ascends, IsNodeOk, has_objects, is_lifted, is_object, is_object_at}
use Rattle.exec_graph.specs.declared.graph.Place.{Place}
use Rattle.exec_graph.specs.declared.graph.Node.{Node}
use Rattle.exec_graph.specs.declared.graph.Node.TheVariants.{Pdo, Barrier}
use Rattle.exec_graph.specs.declared.graph.Entry.{Entry}
use Rattle.exec_graph.specs.declared.graph.Graph.{Graph}
use Rattle.exec_graph.specs.declared.graph.Blocked.{Blocked}
use Rattle.exec_graph.proofs.Entries.{all_found, all_map}
use Rattle.graph_laws.specs.Joining.{reread, reread_entry}
use Rattle.graph_laws.proofs.ObjectNodes.{flags_reread, object_mapped}
use Rattle.pardo_fuse.specs.Readers.{Cut, cut_of}
use Rattle.pardo_fuse.specs.Parting.{parts, parts_of_node, part_place, parted_nodes, parted_graph, parted}
use Rattle.pardo_fuse.specs.SingleFusing.{joined_nodes, entries_left}
use Rattle.pardo_fuse.specs.Wellformed.{IsFusible}
use Rattle.pardo_fuse.proofs.BlockedOk.{IsCutOk, cut_outer, joined_ascends}
use Rattle.pardo_fuse.proofs.Naming.{all_numbers}
use Rattle.pardo_fuse.proofs.PartedMeaning.{there_node}
use Rattle.pardo_fuse.proofs.Unparting.{CanPart, each_part, kind_part, lifted_reread}
use Rattle.pardo_fuse.proofs.PartedNodes.{can_part, node_ok}
use Rattle.pardo_fuse.proofs.PartedLeft.{all_size, joined_parted, map_ascends}

-- ---- marks and objects

marks_unlifted : (g : Graph) → CanPart g → (c : Place) → IsThere g.nodes c
    → is_lifted (node_at g.nodes c.node) ≡ false
    → is_lifted (node_at (parted_nodes g) (part_place g c).node) ≡ false
marks_unlifted g can c t h = kind_part is_lifted lifted_reread (λ c d f h. refl) g can c t ∙ h

-- A collection is an object where its part is one.
object_part : (g : Graph) → CanPart g → (c : Place) → IsThere g.nodes c
    → is_object_at (parted_nodes g) (part_place g c) ≡ is_object_at g.nodes c
object_part = kind_part is_object (λ r x. object_mapped r (Some x)) (λ c d f h. refl)

parts_objects : (es : List Entry) (k n : ℕ) (c : Place) (f : Forest)
    → AllByRecursion (λ (h : Entry). has_objects es h.node ≡ true) (parts k n c f)
parts_objects es k n c Bare = tt
parts_objects es k n c (Grow l kids rest) = (refl, parts_objects es k n c rest)

node_objects : (g : Graph) → CanPart g → (n : ℕ) (x : Node) → node_at g.nodes n ≡ Some x
    → has_objects g.nodes x ≡ true
    → AllByRecursion (λ (h : Entry). has_objects (parted_nodes g) h.node ≡ true)
    (parts_of_node g.next n (reread (part_place g) x))
node_objects g can n (Pdo c f) at h = parts_objects (parted_nodes g) g.next n (part_place g c) f
node_objects g can n (Barrier ins o l d) at h = (
  ap (takes_such d) (flags_reread (is_object_at (parted_nodes g)) (is_object_at g.nodes)
      (part_place g) ins (Each-weaker (IsThere g.nodes)
      (λ c. is_object_at (parted_nodes g) (part_place g c) ≡ is_object_at g.nodes c)
      (λ c t. object_part g can c t) ins (there_node g can n (Barrier ins o l d) at))) ∙ h,
  tt,
)
node_objects g can n _ at h = (refl, tt)

-- ---- all of it

pub cut_ok : (b : Blocked) → IsFusible b → IsCutOk (cut_of (parted b))
cut_ok b fu =
    let g : Graph = b.graph in
    let can : CanPart g = can_part b fu in
    let c : Cut = cut_of (parted b) in
    let es : List Entry = map (reread_entry (part_place g)) g.nodes in
    let joined : joined_nodes c ≡ flat_map (λ (e : Entry). entries_left c e.number e.node) es =
    joined_parted b can
    ∙ sym (flat_map-map (λ (e : Entry). entries_left c e.number e.node)
    (reread_entry (part_place g)) g.nodes) in
    record {
      ascends = subst Ascends (sym joined)
          (joined_ascends c es (map_ascends (part_place g) g.nodes fu.ok.ok.founded.ascends));
      below = subst (AllByRecursion (λ (e : Entry). e.number < g.next)) (sym joined)
          (all_numbers c (λ m. m < g.next) es (all_map (reread_entry (part_place g))
          (λ (e : Entry). e.number < g.next) (λ (e : Entry). e.number < g.next) (λ e a. a) g.nodes
          can.below));
      few = let e = all_size g.next (part_place g) g.nodes can.steps in let f = fu.ok.ok.few in
          omega arith;
      nodes = each_part (λ (h : Entry). IsNodeOk (parted_graph g) h.number h.node) g can.ok.differ
          (λ n x at. node_ok g can n x at
          (all_found (λ (e : Entry). IsNodeOk g e.number e.node) g.nodes n x at fu.ok.ok.nodes));
      unlifted = all_map (part_place g)
          (λ c. IsThere g.nodes c × (is_lifted (node_at g.nodes c.node) ≡ false))
          (λ c. is_lifted (node_at (parted_nodes g) c.node) ≡ false)
          (λ c a. marks_unlifted g can c a.0 a.1) b.marks
          (Each-both (IsThere g.nodes) (λ c. is_lifted (node_at g.nodes c.node) ≡ false)
          (λ c. IsThere g.nodes c × (is_lifted (node_at g.nodes c.node) ≡ false))
          (λ c t u. (t, u)) b.marks
          fu.ok.marked fu.ok.unlifted);
      outer = cut_outer (parted b);
      objects = each_part (λ (h : Entry). has_objects (parted_nodes g) h.node
          ≡ true) g can.ok.differ
          (λ n x at. node_objects g can n x at
          (all_found (λ (e : Entry). has_objects g.nodes e.node
          ≡ true) g.nodes n x at fu.ok.ok.objects));
    }
