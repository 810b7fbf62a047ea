-- A forest that is left has no more outputs than all steps have.
use Rattle.std.proofs.Common.{◌≡◌, ◌<◌, ◌^◌, ℕ, Bool, cond, [], length, length-append, Some, refl, ap, ◌∙◌, arith}
use Rattle.flume_value.proofs.EachLemmas.{Each-weaker}
use Rattle.exec_graph.specs.Forests.{Forest, Bare, Grow}
use Rattle.exec_graph.specs.Meaning.{node_at}
use Rattle.exec_graph.specs.declared.graph.Place.{Place}
use Rattle.exec_graph.specs.declared.graph.Blocked.{Blocked}
use Rattle.exec_graph.specs.declared.graph.Graph.{Graph}
use Rattle.exec_graph.specs.declared.graph.Node.{Node}
use Rattle.exec_graph.specs.declared.graph.Node.TheVariants.{Pdo}
use Rattle.exec_graph.specs.declared.graph.Entry.{Entry}
use Rattle.exec_graph.proofs.Solving.{each_found}
use Rattle.graph_laws.specs.Kids.{kept_by}
use Rattle.pardo_fuse.specs.Readers.{Cut, cut_of}
use Rattle.pardo_fuse.specs.Fusing.{forest_over, leads}
use Rattle.pardo_fuse.specs.SingleFusing.{CanFuse, forest_reading, keeps_output}
use Rattle.pardo_fuse.specs.Parting.{part_place, parted}
use Rattle.pardo_fuse.specs.Wellformed.{IsFusible}
use Rattle.pardo_fuse.specs.inner.Naming.{AllShort, LeadsShort, labels}
use Rattle.pardo_fuse.proofs.Partition.{numbers}
use Rattle.pardo_fuse.proofs.Once.{all_of, left_numbers}
use Rattle.pardo_fuse.proofs.Few.{left_length, part_short}
use Rattle.pardo_fuse.proofs.Hanging.{Matches, can_mark, forest_matches}
use Rattle.pardo_fuse.proofs.PartedMeaning.{there_node}
use Rattle.pardo_fuse.proofs.PartedNodes.{can_fuse, can_part}
use Rattle.pardo_fuse.proofs.PartedLeft.{few_parts}
use Rattle.pardo_fuse.proofs.Rejoining.{root_found}
use Rattle.pardo_fuse.proofs.SiteKids.{leads_part}
use Rattle.pardo_fuse.proofs.Unparting.{CanPart}

labels_length : (f : Forest) → labels f ≡ length (numbers f)
labels_length Bare = refl
labels_length (Grow l kids rest) =
    let a = labels_length kids in
    let b = labels_length rest in
    omega (arith, length-append (numbers kids) (numbers rest))

labels_kept : (keep : ℕ → Bool) (f : Forest) → labels (kept_by keep f) ≡ labels f
labels_kept keep Bare = refl
labels_kept keep (Grow l kids rest) =
    let a = labels_kept keep kids in
    let b = labels_kept keep rest in
    omega arith

matched_labels : (a : Blocked) (f h : Forest) → Matches a f h → labels f ≡ labels h
matched_labels a Bare Bare e = refl
matched_labels a Bare (Grow m others more) e = absurd e
matched_labels a (Grow l kids rest) Bare e = absurd e
matched_labels a (Grow l kids rest) (Grow m others more) e =
    let i = matched_labels a kids others e.2 in
    let j = matched_labels a rest more e.3 in
    omega arith

lead_short : (b : Cut) → CanFuse b → length b.graph.nodes < 2 ^ 32
    → (n : ℕ) (c : Place) (f : Forest)
    → node_at b.graph.nodes n ≡ Some (Pdo c f) → leads b n c ≡ Bool.true
    → labels (all_of b c) < 2 ^ 32
lead_short b can m n c f h l =
    let e : length (left_numbers b n (Pdo c f)) ≡ length (numbers (all_of b c)) =
    ap (λ (r : Bool). length (cond r (numbers (all_of b c)) [])) l in
    let s = part_short b b.graph.nodes n (Pdo c f) h in
    let a = left_length b can in
    let k = labels_length (all_of b c) in
    omega arith

node_short : (a : Blocked) → IsFusible a → (n : ℕ) (x : Node) → node_at a.graph.nodes n ≡ Some x
    → LeadsShort (cut_of a) n x
node_short a fu n (Pdo c f) h = λ l.
    let g : Graph = a.graph in
    let can : CanPart g = can_part a fu in
    let p : Cut = cut_of (parted a) in
    let t = (there_node g can n (Pdo c f) h).0 in
    let w = root_found g can n c f h in
    let s = lead_short p (can_fuse a fu) (few_parts a fu) n (part_place g c) w.0 w.1
    (leads_part a (can_mark a fu) n c t ∙ l) in
    let e = matched_labels a (forest_over (cut_of a) c) (forest_reading p (part_place g c))
    (forest_matches a fu c t) in
    let k = labels_kept (keeps_output p) (all_of p (part_place g c)) in
    omega arith
node_short a fu n _ h = tt

pub all_short : (a : Blocked) → IsFusible a → AllShort (cut_of a) a.graph.nodes
all_short a fu = Each-weaker (λ (e : Entry). node_at a.graph.nodes e.number ≡ Some e.node)
    (λ e. LeadsShort (cut_of a) e.number e.node)
    (λ e h. node_short a fu e.number e.node h) a.graph.nodes
    (each_found a.graph.nodes (can_part a fu).ok.differ)
