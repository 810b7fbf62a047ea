-- The fused graph is what fusing makes of the graph whose outputs have Pdos of their own.
use Rattle.std.proofs.Common.{◌≡◌, ℕ, Bool, true, false, cond, List, [], ◌∷◌, map, Some, refl, sym, ap, ◌∙◌}
use Rattle.std.specs.List.{flat_map, AllByRecursion}
use Rattle.flume_value.proofs.EachLemmas.{Each-append}
use Rattle.exec_graph.specs.Forests.{Forest, Bare, Grow, numbered}
use Rattle.exec_graph.specs.Meaning.{node_at, reads, IsThere}
use Rattle.exec_graph.specs.declared.graph.Place.{Place}
use Rattle.exec_graph.specs.declared.graph.Node.{Node}
use Rattle.exec_graph.specs.declared.graph.Node.TheVariants.{Source, Flatten, Pdo, Gbk, Barrier}
use Rattle.exec_graph.specs.declared.graph.Entry.{Entry}
use Rattle.exec_graph.specs.declared.graph.Graph.{Graph}
use Rattle.exec_graph.specs.declared.graph.Blocked.{Blocked}
use Rattle.exec_graph.proofs.Solving.{each_found}
use Rattle.graph_laws.specs.Joining.{reread}
use Rattle.pardo_fuse.specs.Readers.{Cut, cut_of}
use Rattle.pardo_fuse.specs.Parting.{part_number, sole_output, part_place, parted_nodes, parted}
use Rattle.pardo_fuse.specs.Fusing.{finished_entry, forest_over, joined_by, kept_nodes, kept_of, leads, moved_to, with_numbers}
use Rattle.pardo_fuse.specs.SingleFusing.{fused_by, joined_nodes, new_place}
use Rattle.pardo_fuse.specs.Wellformed.{IsFusible}
use Rattle.pardo_fuse.proofs.BlockedOk.{mark_seen}
use Rattle.pardo_fuse.proofs.Hanging.{can_mark, matched_numbered}
use Rattle.pardo_fuse.proofs.PartedMeaning.{there_node}
use Rattle.pardo_fuse.proofs.PartedNodes.{can_fuse, can_part}
use Rattle.pardo_fuse.proofs.PartedOk.{cut_ok}
use Rattle.pardo_fuse.proofs.Parting.{EachLabel, IsRow, first_number, row_of}
use Rattle.pardo_fuse.proofs.Seeing.{leads_seen, seen_left, seen_outputs}
use Rattle.pardo_fuse.proofs.SiteKids.{filled, leads_part}
use Rattle.pardo_fuse.proofs.Unparting.{CanPart, label_found, other_found, step_at_node}
use Rattle.pardo_fuse.proofs.Moving.{Alike, AlikeNode, all_moves, map_moves, Moves, nodes_alike, seen_moves}

-- ---- what the nodes that are left read

pub root_found : (g : Graph) → CanPart g → (n : ℕ) (c : Place) (f : Forest)
    → node_at g.nodes n ≡ Some (Pdo c f)
    → (h : Forest) × (node_at (parted_nodes g) n ≡ Some (Pdo (part_place g c) h))
root_found g can n c f at =
    let s = step_at_node g can n c f at in
    by f (row_of f s) (filled f s) (label_found g can n c f at)
  where
    by : (f : Forest) → IsRow 0 f → (f ≡ Bare → ⊥)
        → EachLabel (λ l. node_at (parted_nodes g) (part_number g.next n l.at)
        ≡ Some (Pdo (part_place g c) (sole_output l))) f
        → (h : Forest) × (node_at (parted_nodes g) n ≡ Some (Pdo (part_place g c) h))
    by Bare r z a = absurd (z refl)
    by (Grow l kids rest) r z a = (
      sole_output l,
      ap (node_at (parted_nodes g))
          (sym (ap (part_number g.next n) r.0 ∙ first_number g.next n)) ∙ a.0,
    )

node_moves : (a : Blocked) → IsFusible a → (n : ℕ) (x : Node) → node_at a.graph.nodes n ≡ Some x
    → AllByRecursion (λ (h : Entry). AllByRecursion (Moves a) (reads h.node))
    (kept_of (cut_of a) n x)
node_moves a fu n (Source r) at = (tt, tt)
node_moves a fu n (Flatten ins) at =
    let g : Graph = a.graph in
    let can : CanPart g = can_part a fu in (
      all_moves a fu ins (there_node g can n (Flatten ins) at)
          (seen_left (cut_of (parted a)) (can_fuse a fu) n (Flatten (map (part_place g) ins))
          (other_found g can n (Flatten ins) at refl) refl),
      tt,
    )
node_moves a fu n (Pdo c f) at = by (leads (cut_of a) n c) refl
  where
    by : (b : Bool) → leads (cut_of a) n c ≡ b
        → AllByRecursion (λ (h : Entry). AllByRecursion (Moves a) (reads h.node)) (cond b (record {
          number = n;
          node = Pdo c (forest_over (cut_of a) c);
        } ∷ []) [])
    by true l =
        let g : Graph = a.graph in
        let can : CanPart g = can_part a fu in
        let t : IsThere g.nodes c = (there_node g can n (Pdo c f) at).0 in
        let w = root_found g can n c f at in (
          (
            seen_moves a fu c t (leads_seen (cut_of (parted a)) (can_fuse a fu) n
                (part_place g c) w.0 w.1
                (leads_part a (can_mark a fu) n c t ∙ l)),
            tt,
          ),
          tt,
        )
    by false l = tt
node_moves a fu n (Gbk c o l k) at =
    let g : Graph = a.graph in
    let can : CanPart g = can_part a fu in (
      all_moves a fu (c ∷ []) (there_node g can n (Gbk c o l k) at)
          (seen_left (cut_of (parted a)) (can_fuse a fu) n (Gbk (part_place g c) o l k)
          (other_found g can n (Gbk c o l k) at refl) refl),
      tt,
    )
node_moves a fu n (Barrier ins o l d) at =
    let g : Graph = a.graph in
    let can : CanPart g = can_part a fu in (
      all_moves a fu ins (there_node g can n (Barrier ins o l d) at)
          (seen_left (cut_of (parted a)) (can_fuse a fu) n (Barrier (map (part_place g) ins) o l d)
          (other_found g can n (Barrier ins o l d) at refl) refl),
      tt,
    )

nodes_move : (a : Blocked) → IsFusible a → (es : List Entry)
    → AllByRecursion (λ (e : Entry). node_at a.graph.nodes e.number ≡ Some e.node) es
    → AllByRecursion (λ (h : Entry). AllByRecursion (Moves a) (reads h.node))
    (flat_map (λ (e : Entry). kept_of (cut_of a) e.number e.node) es)
nodes_move a fu [] f = tt
nodes_move a fu (e ∷ es) f =
    Each-append (λ (h : Entry). AllByRecursion (Moves a) (reads h.node))
    (kept_of (cut_of a) e.number e.node)
    (flat_map (λ (e : Entry). kept_of (cut_of a) e.number e.node) es)
    (node_moves a fu e.number e.node f.0) (nodes_move a fu es f.1)

done_same : (a : Blocked) (x y : Node) → AlikeNode a x y → AllByRecursion (Moves a) (reads x)
    → reread (moved_to (kept_nodes (cut_of a))) (with_numbers x)
    ≡ reread (new_place (joined_nodes (cut_of (parted a)))) (with_numbers y)
done_same a (Source r) y h m =
    sym (ap (λ (z : Node). reread (new_place (joined_nodes (cut_of (parted a))))
    (with_numbers z)) h)
done_same a (Flatten ins) y h m =
    ap Flatten (map_moves a ins m)
    ∙ sym (ap (λ (z : Node). reread (new_place (joined_nodes (cut_of (parted a))))
    (with_numbers z)) h)
done_same a (Pdo c f) y h m =
    ap (λ (z : Place). Pdo z (numbered 0 f)) m.0
    ∙ ap (Pdo (new_place (joined_nodes (cut_of (parted a))) (part_place a.graph c)))
    (matched_numbered a 0 f h.0 h.2)
    ∙ sym (ap (λ (z : Node). reread (new_place (joined_nodes (cut_of (parted a))))
    (with_numbers z)) h.1)
done_same a (Gbk c o l k) y h m =
    ap (λ (z : Place). Gbk z o l k) m.0
    ∙ sym (ap (λ (z : Node). reread (new_place (joined_nodes (cut_of (parted a))))
    (with_numbers z)) h)
done_same a (Barrier ins o l d) y h m =
    ap (λ (cs : List Place). Barrier cs o l d) (map_moves a ins m)
    ∙ sym (ap (λ (z : Node). reread (new_place (joined_nodes (cut_of (parted a))))
    (with_numbers z)) h)

finished_same : (a : Blocked) (ds es : List Entry) → Alike a ds es
    → AllByRecursion (λ (h : Entry). AllByRecursion (Moves a) (reads h.node)) ds
    → map (finished_entry (moved_to (kept_nodes (cut_of a)))) ds
    ≡ map (finished_entry (new_place (joined_nodes (cut_of (parted a))))) es
finished_same a [] [] h m = refl
finished_same a [] (e ∷ es) h m = absurd h
finished_same a (d ∷ ds) [] h m = absurd h
finished_same a (d ∷ ds) (e ∷ es) h m =
    let i = finished_same a ds es h.2 m.1 in
    let n = done_same a d.node e.node h.1 m.0 in
    let q : d.number ≡ e.number = h.0 in
    ap (λ (x : ℕ). let y : Entry = record {
      number = x;
      node = reread (moved_to (kept_nodes (cut_of a))) (with_numbers d.node);
    } in y ∷ map (finished_entry (moved_to (kept_nodes (cut_of a)))) ds) q
    ∙ ap (λ (x : Node). let y : Entry = record { number = e.number; node = x } in
    y ∷ map (finished_entry (moved_to (kept_nodes (cut_of a)))) ds) n
    ∙ ap (λ (l : List Entry). finished_entry (new_place (joined_nodes (cut_of (parted a)))) e ∷ l) i

-- ---- the whole

abbrev made : ℕ → List Entry → List Place → List Place → Blocked
made next es outputs marks =
    record { graph = record { nodes = es; outputs = outputs; next = next }; marks = marks }

pub joined_is : (a : Blocked) → IsFusible a → joined_by (cut_of a) ≡ fused_by (cut_of (parted a))
unfolding joined_by fused_by
joined_is a fu =
    let g : Graph = a.graph in
    let b : Cut = cut_of a in
    let p : Cut = cut_of (parted a) in
    let can : CanPart g = can_part a fu in
    let ds : List Entry = kept_nodes b in
    let es : List Entry = joined_nodes p in
    let nodes : map (finished_entry (moved_to ds)) ds ≡ map (finished_entry (new_place es)) es =
    finished_same a ds es (nodes_alike a fu)
    (nodes_move a fu g.nodes (each_found g.nodes can.ok.differ)) in
    let outputs : map (moved_to ds) g.outputs ≡ map (new_place es) (map (part_place g) g.outputs) =
    map_moves a g.outputs (all_moves a fu g.outputs can.ok.told (seen_outputs p (can_fuse a fu))) in
    let marks : map (moved_to ds) a.marks ≡ map (new_place es) (map (part_place g) a.marks) =
    map_moves a a.marks (all_moves a fu a.marks fu.ok.marked
    (mark_seen p (can_fuse a fu) (cut_ok a fu))) in
    ap (λ (x : List Entry). made g.next x (map (moved_to ds) g.outputs)
    (map (moved_to ds) a.marks)) nodes
    ∙ ap (λ (x : List Place). made g.next (map (finished_entry (new_place es)) es) x
    (map (moved_to ds) a.marks)) outputs
    ∙ ap (made g.next (map (finished_entry (new_place es)) es)
    (map (new_place es) (map (part_place g) g.outputs))) marks
