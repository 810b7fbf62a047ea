-- Where a collection is in the fused graph is where its part is, in what fusing makes of the parts.
use Rattle.std.proofs.Common.{◌≡◌, ℕ, ◌%◌, Bool, true, false, cond, eqb, ◌||◌, List, [], ◌∷◌, ◌++◌, map, Some, refl, sym, ap, ◌∙◌, subst}
use Rattle.std.proofs.lemmas.Bool.{eqb-true, eq-eqb, false≢true}
use Rattle.std.specs.List.{flat_map, AllByRecursion}
use Rattle.flume_value.proofs.EachLemmas.{Each-both}
use Rattle.exec_graph.specs.Forests.{Forest}
use Rattle.exec_graph.specs.Meaning.{node_at, reads, place, IsThere}
use Rattle.exec_graph.specs.Places.{code}
use Rattle.exec_graph.specs.Readers.{any_node}
use Rattle.exec_graph.specs.declared.graph.Place.{Place}
use Rattle.exec_graph.specs.declared.graph.Node.{Node}
use Rattle.exec_graph.specs.declared.graph.Node.TheVariants.{Source, Flatten, Pdo, Gbk, Barrier}
use Rattle.exec_graph.specs.declared.graph.Entry.{Entry}
use Rattle.exec_graph.specs.declared.graph.Graph.{Graph}
use Rattle.exec_graph.specs.declared.graph.Blocked.{Blocked}
use Rattle.exec_graph.proofs.Coding.{code_same}
use Rattle.exec_graph.proofs.Solving.{there_found}
use Rattle.graph_laws.specs.Joining.{reread}
use Rattle.pardo_fuse.specs.Readers.{Cut, cut_of, is_pdo}
use Rattle.pardo_fuse.specs.Parting.{part_number, part_at, at_of, part_place, parted_nodes, parted}
use Rattle.pardo_fuse.specs.Fusing.{forest_over, holds_out, kept_nodes, kept_of, leads, moved_to, out_number}
use Rattle.pardo_fuse.specs.SingleFusing.{CanFuse, forest_reading, joined_nodes, entries_left, new_place}
use Rattle.pardo_fuse.specs.Wellformed.{IsFusible}
use Rattle.pardo_fuse.proofs.Finding.{IsSeen, any_joined}
use Rattle.pardo_fuse.proofs.Hanging.{IsSite, Matches, Seeks, can_mark, forest_matches, matched_has, matched_number, small_out}
use Rattle.pardo_fuse.proofs.Levels.{all_grown}
use Rattle.pardo_fuse.proofs.PartedNodes.{can_fuse, can_part}
use Rattle.pardo_fuse.proofs.PartedLeft.{joined_parted}
use Rattle.pardo_fuse.proofs.Places.{pdo_is, same_is}
use Rattle.pardo_fuse.proofs.SiteKids.{leads_part, pdo_part}
use Rattle.pardo_fuse.proofs.Unparting.{CanPart, back, is_parted, part_same}
use Rattle.pardo_fuse.proofs.Wellness.{well_kept}

-- ---- an output by its code and by its Pdo's number

pdo_out : (g : Graph) (c d : Place) (f : Forest) → node_at g.nodes c.node ≡ Some (Pdo d f)
    → part_place g c ≡ place (part_place g c).node 0
pdo_out g c d f at =
    let is : part_place g c ≡ place (part_number g.next c.node (at_of c.out f)) 0 =
    ap (part_at g.next c) at in
    is ∙ ap (λ (x : Place). place x.node 0) (sym is)

seek_by : (a : Blocked) → IsFusible a → (c : Place) → IsThere a.graph.nodes c → (x y : ℕ)
    → IsSite a x y → (s t : Bool) → eqb x (code c) ≡ s → eqb y (part_place a.graph c).node ≡ t
    → s ≡ t
seek_by a fu c t x y i true true p q = refl
seek_by a fu c t x y i false false p q = refl
seek_by a fu c t x y i true false p q =
    let g : Graph = a.graph in
    let same : i.of ≡ c = same_is i.of c
    (sym (code_same i.of c (small_out a fu i.of i.there) (small_out a fu c t))
    ∙ ap (λ (z : ℕ). eqb z (code c)) (sym i.coded) ∙ p) in
    let node : y ≡ (part_place g c).node =
    ap (λ (z : Place). z.node) (i.parted ∙ ap (part_place g) same) in
    absurd (false≢true (sym q ∙ eq-eqb y (part_place g c).node node))
seek_by a fu c t x y i false true p q =
    let g : Graph = a.graph in
    let can : CanPart g = can_part a fu in
    let node : y ≡ (part_place g c).node = eqb-true y (part_place g c).node q in
    let here : i.of.node ≡ c.node =
    sym (is_parted g can i.of i.there).node ∙ ap (λ (z : Place). z.node % g.next) (sym i.parted)
    ∙ ap (λ (z : ℕ). z % g.next) node ∙ (is_parted g can c t).node in
    let w = pdo_is (node_at g.nodes c.node) (sym (ap (λ (z : ℕ). is_pdo (node_at g.nodes z)) here)
    ∙ i.pdo) in
    let one : part_place g i.of ≡ part_place g c =
    sym i.parted ∙ ap (λ (z : ℕ). place z 0) node ∙ sym (pdo_out g c w.0 w.1 w.2) in
    let same : i.of ≡ c = sym (is_parted g can i.of i.there).back ∙ ap (back g) one
    ∙ (is_parted g can c t).back in
    absurd (false≢true (sym p ∙ ap (λ (z : ℕ). eqb z (code c)) (i.coded ∙ ap code same)
    ∙ eq-eqb (code c) (code c) refl))

seeks : (a : Blocked) → IsFusible a → (c : Place) → IsThere a.graph.nodes c
    → Seeks a c (part_place a.graph c).node
seeks a fu c t x y i =
    seek_by a fu c t x y i (eqb x (code c)) (eqb y (part_place a.graph c).node) refl refl

-- ---- nodes that are left, side by side

abbrev pub AlikeNode : Blocked → Node → Node → Type 0
AlikeNode a (Source r) y = y ≡ Source r
AlikeNode a (Flatten ins) y = y ≡ Flatten (map (part_place a.graph) ins)
AlikeNode a (Pdo c f) y = (h : Forest) × (y ≡ Pdo (part_place a.graph c) h) × Matches a f h
AlikeNode a (Gbk c o l k) y = y ≡ Gbk (part_place a.graph c) o l k
AlikeNode a (Barrier ins o l d) y = y ≡ Barrier (map (part_place a.graph) ins) o l d

abbrev pub Alike : Blocked → List Entry → List Entry → Type 0
Alike a [] [] = Unit {0}
Alike a [] (e ∷ es) = ⊥
Alike a (d ∷ ds) [] = ⊥
Alike a (d ∷ ds) (e ∷ es) = (d.number ≡ e.number) × AlikeNode a d.node e.node × Alike a ds es

alike_append : (a : Blocked) (ds es xs ys : List Entry) → Alike a ds es → Alike a xs ys
    → Alike a (ds ++ xs) (es ++ ys)
alike_append a [] [] xs ys h i = i
alike_append a [] (e ∷ es) xs ys h i = absurd h
alike_append a (d ∷ ds) [] xs ys h i = absurd h
alike_append a (d ∷ ds) (e ∷ es) xs ys h i = (h.0, h.1, alike_append a ds es xs ys h.2 i)

node_alike : (a : Blocked) → IsFusible a → (n : ℕ) (x : Node)
    → AllByRecursion (IsThere a.graph.nodes) (reads x)
    → Alike a (kept_of (cut_of a) n x)
    (entries_left (cut_of (parted a)) n (reread (part_place a.graph) x))
node_alike a fu n (Pdo c f) t =
    let g : Graph = a.graph in
    let p : Cut = cut_of (parted a) in
    let d : Place = part_place g c in
    subst (λ (b : Bool). Alike a (kept_of (cut_of a) n (Pdo c f)) (cond b (record {
      number = n;
      node = Pdo d (forest_reading p d);
    } ∷ []) [])) (sym (leads_part a (can_mark a fu) n c t.0)) (by (leads (cut_of a) n c))
  where
    by : (b : Bool) → Alike a (cond b (record {
      number = n;
      node = Pdo c (forest_over (cut_of a) c);
    } ∷ []) []) (cond b (record {
      number = n;
      node = Pdo (part_place a.graph c) (forest_reading (cut_of (parted a)) (part_place a.graph c));
    } ∷ []) [])
    by true = (
      refl,
      (
        forest_reading (cut_of (parted a)) (part_place a.graph c),
        refl,
        forest_matches a fu c t.0,
      ),
      tt,
    )
    by false = tt
node_alike a fu n _ t = (refl, refl, tt)

all_alike : (a : Blocked) → IsFusible a → (es : List Entry)
    → AllByRecursion (λ (e : Entry). AllByRecursion (IsThere a.graph.nodes) (reads e.node)) es
    → Alike a (flat_map (λ (e : Entry). kept_of (cut_of a) e.number e.node) es)
    (flat_map (λ (e : Entry). entries_left (cut_of (parted a)) e.number
    (reread (part_place a.graph) e.node)) es)
all_alike a fu [] t = tt
all_alike a fu (e ∷ es) t =
    alike_append a (kept_of (cut_of a) e.number e.node)
    (entries_left (cut_of (parted a)) e.number (reread (part_place a.graph) e.node))
    (flat_map (λ (e : Entry). kept_of (cut_of a) e.number e.node) es)
    (flat_map (λ (e : Entry). entries_left (cut_of (parted a)) e.number
    (reread (part_place a.graph) e.node)) es)
    (node_alike a fu e.number e.node t.0) (all_alike a fu es t.1)

pub nodes_alike : (a : Blocked) → IsFusible a
    → Alike a (kept_nodes (cut_of a)) (joined_nodes (cut_of (parted a)))
nodes_alike a fu = subst (Alike a (kept_nodes (cut_of a))) (sym (joined_parted a (can_part a fu)))
    (all_alike a fu a.graph.nodes (can_part a fu).ok.there)

-- ---- a collection is found in both

holds_same : (a : Blocked) (c : Place) (q : ℕ) → Seeks a c q → (x y : Node) → AlikeNode a x y
    → holds_out (code c) x ≡ holds_out q y
holds_same a c q s (Pdo d f) y h = matched_has a c q s f h.0 h.2 ∙ sym (ap (holds_out q) h.1)
holds_same a c q s _ y h = sym (ap (holds_out q) h)

number_same : (a : Blocked) (c : Place) (q : ℕ) → Seeks a c q → (x y : Node) → AlikeNode a x y
    → out_number (code c) x ≡ out_number q y
number_same a c q s (Pdo d f) y h = matched_number a c q s 0 f h.0 h.2 ∙ sym (ap (out_number q) h.1)
number_same a c q s _ y h = sym (ap (out_number q) h)

move_same : (a : Blocked) (c p : Place) → Seeks a c p.node → (ds es : List Entry) → Alike a ds es
    → (any_node (holds_out p.node) es ≡ false → p ≡ c) → moved_to ds c ≡ new_place es p
move_same a c p s [] [] h none = sym (none refl)
move_same a c p s [] (e ∷ es) h none = absurd h
move_same a c p s (d ∷ ds) [] h none = absurd h
move_same a c p s (d ∷ ds) (e ∷ es) h none =
    ap (λ (b : Bool). cond b (place d.number (out_number (code c) d.node)) (moved_to ds c))
    (holds_same a c p.node s d.node e.node h.1)
    ∙ by (holds_out p.node e.node) none (move_same a c p s ds es h.2)
  where
    by : (b : Bool) → ((b || any_node (holds_out p.node) es) ≡ false → p ≡ c)
        → ((any_node (holds_out p.node) es ≡ false → p ≡ c) → moved_to ds c ≡ new_place es p)
        → cond b (place d.number (out_number (code c) d.node)) (moved_to ds c)
        ≡ cond b (place e.number (out_number p.node e.node)) (new_place es p)
    by true n f = ap (λ (x : ℕ). place x (out_number (code c) d.node)) h.0
        ∙ ap (place e.number) (number_same a c p.node s d.node e.node h.1)
    by false n f = f n

-- What is still read.
pub seen_moves : (a : Blocked) → IsFusible a → (c : Place) → IsThere a.graph.nodes c
    → IsSeen (cut_of (parted a)) (part_place a.graph c)
    → moved_to (kept_nodes (cut_of a)) c
    ≡ new_place (joined_nodes (cut_of (parted a))) (part_place a.graph c)
seen_moves a fu c t seen =
    move_same a c (part_place a.graph c) (seeks a fu c t) (kept_nodes (cut_of a))
    (joined_nodes (cut_of (parted a))) (nodes_alike a fu)
    (by (is_pdo (node_at a.graph.nodes c.node)) refl)
  where
    p : Cut
    p = cut_of (parted a)

    by : (b : Bool) → is_pdo (node_at a.graph.nodes c.node) ≡ b
        → any_node (holds_out (part_place a.graph c).node) (joined_nodes p) ≡ false
        → part_place a.graph c ≡ c
    by true h none =
        let can : CanFuse p = can_fuse a fu in
        let pdo : is_pdo (node_at (parted_nodes a.graph) (part_place a.graph c).node) ≡ true =
        pdo_part a.graph (can_part a fu) c t ∙ h in
        absurd (false≢true (sym none
        ∙ any_joined p (part_place a.graph c).node can (all_grown p can) pdo
        (well_kept p (part_place a.graph c) can seen pdo)))
    by false h none =
        let x = there_found a.graph.nodes c t in
        part_same a.graph c x.0 x.1 (sym (ap is_pdo x.1) ∙ h)

abbrev pub Moves : Blocked → Place → Type 0
Moves a c =
    moved_to (kept_nodes (cut_of a)) c
    ≡ new_place (joined_nodes (cut_of (parted a))) (part_place a.graph c)

unmap : (P : Place → Type 0) (r : Place → Place) (ds : List Place) → AllByRecursion P (map r ds)
    → AllByRecursion (λ d. P (r d)) ds
unmap P r [] a = tt
unmap P r (d ∷ ds) a = (a.0, unmap P r ds a.1)

pub all_moves : (a : Blocked) → IsFusible a → (ds : List Place)
    → AllByRecursion (IsThere a.graph.nodes) ds
    → AllByRecursion (IsSeen (cut_of (parted a))) (map (part_place a.graph) ds)
    → AllByRecursion (Moves a) ds
all_moves a fu ds t s =
    Each-both (IsThere a.graph.nodes) (λ d. IsSeen (cut_of (parted a)) (part_place a.graph d))
    (Moves a)
    (λ d u v. seen_moves a fu d u v) ds t
    (unmap (IsSeen (cut_of (parted a))) (part_place a.graph) ds s)

pub map_moves : (a : Blocked) (ds : List Place) → AllByRecursion (Moves a) ds
    → map (moved_to (kept_nodes (cut_of a))) ds
    ≡ map (new_place (joined_nodes (cut_of (parted a)))) (map (part_place a.graph) ds)
map_moves a [] m = refl
map_moves a (d ∷ ds) m = let i = map_moves a ds m.1 in let e : Moves a d = m.0 in cc
