-- The graph itself, as the nodes that are left where only the outputs of each step stand together.
use Rattle.std.proofs.Common.{◌≡◌, ℕ, ◌/◌, ◌%◌, Bool, true, false, cond, ◌||◌, List, [], ◌∷◌, ◌++◌, map, Option, Some, None, refl, sym, ap, ◌∙◌, arith, suc}
use Rattle.std.proofs.lemmas.Bool.{eq-eqb, ne_eqb}
use Rattle.std.proofs.lemmas.List.Concat.{flat_map-append}
use Rattle.std.specs.List.{AllByRecursion as Each}
use Rattle.flume_value.proofs.EachLemmas.{Each-both}
use Rattle.exec_graph.specs.Forests.{Forest, Bare, Grow, numbered}
use Rattle.exec_graph.specs.Meaning.{node_at, reads, IsThere, AllDiffer, HasOuts}
use Rattle.exec_graph.specs.Readers.{among, any_node, is_read, same_place, uses}
use Rattle.exec_graph.specs.declared.graph.Place.{Place}
use Rattle.exec_graph.specs.declared.graph.Node.{Node}
use Rattle.exec_graph.specs.declared.graph.Node.TheVariants.{Source, Flatten, Pdo, Gbk, Barrier}
use Rattle.exec_graph.specs.declared.graph.Entry.{Entry}
use Rattle.exec_graph.specs.declared.graph.Blocked.{Blocked}
use Rattle.exec_graph.proofs.Entries.{all_found, all_map, entry}
use Rattle.graph_laws.specs.Joining.{reread}
use Rattle.graph_laws.proofs.ReadPlaces.{nodes_read, outputs_read}
use Rattle.pardo_fuse.specs.Fusing.{finished_entry, holds_out, is_first}
use Rattle.pardo_fuse.specs.SingleFusing.{new_place, planted, step_at}
use Rattle.pardo_fuse.specs.Parting.{part_number, parted, parted_nodes, parts, parts_of_node}
use Rattle.pardo_fuse.specs.Wellformed.{IsFusible}
use Rattle.pardo_fuse.proofs.Counting.{times}
use Rattle.pardo_fuse.proofs.Naming.{outs_differ}
use Rattle.pardo_fuse.proofs.Finding.{any_append}
use Rattle.pardo_fuse.proofs.Parting.{IsRow, all_parts, first_number, number_div, number_mod, row_of, small_mod}
use Rattle.pardo_fuse.proofs.SiteKids.{filled}
use Rattle.pardo_fuse.proofs.Sites.{outputs_of, sites}
use Rattle.pardo_fuse.proofs.Unparting.{low, step_at_node}
use Rattle.fuse_chain.specs.Cuts.{siblings_of}
use Rattle.fuse_chain.proofs.SideBySide.{bare, reads_output, rooted}
use Rattle.fuse_chain.proofs.Plans.{drawn, drawn_node, drawn_pdo}
use Rattle.fuse_chain.proofs.States.{IsFine, IsState, graph_of, named_graph}
use Rattle.fuse_chain.proofs.Stepping.{graph_alike}
use Rattle.fuse_chain.proofs.Whole.{can, fine_part, first_site, found, holds_mod, ok_at, own, place_part, sites_at, stands, whole, whole_node, wholes, scene}
use Rattle.fuse_chain.proofs.Rows.{row_numbered, rooted_numbers, sites_once}

module _ (b : Blocked) (fu : IsFusible b) where
  open (scene b) use {g, k, es, r, outs}

  abbrev hs : List Entry
  hs = wholes b

  -- ---- what is drawn
  own_first : (n : ℕ) (c : Place) (f : Forest) → node_at es n ≡ Some (Pdo c f) → (d : Place)
      → own b n d ≡ Some (rooted (parted b) (sites g n))
  own_first n c f at d =
      let w = first_site b fu n c f at in
      ap (λ (m : ℕ). cond (is_first n (sites g m)) (Some (rooted (parted b) (sites g m))) None)
      (small_mod k n (low g (can b fu) n (Pdo c f) at))
      ∙ ap (λ (l : List ℕ). cond (is_first n l) (Some (rooted (parted b) (sites g n))) None) w.1
      ∙ ap (λ (t : Bool). cond t (Some (rooted (parted b) (sites g n))) None) (eq-eqb n n refl)

  pub own_later : (n q : ℕ) (c : Place) (f : Forest) → node_at es n ≡ Some (Pdo c f) → q % k ≡ n
      → (q ≡ n → ⊥) → (d : Place) → own b q d ≡ None
  own_later n q c f at m differ d =
      let w = first_site b fu n c f at in
      ap (λ (x : ℕ). cond (is_first q (sites g x)) (Some (rooted (parted b) (sites g x))) None) m
      ∙ ap (λ (l : List ℕ). cond (is_first q l) (Some (rooted (parted b) (sites g n))) None) w.1
      ∙ ap (λ (t : Bool). cond t (Some (rooted (parted b) (sites g n))) None) (ne_eqb q n differ)

  later_drawn : (n i : ℕ) (c : Place) (f : Forest) → node_at es n ≡ Some (Pdo c f) → (d : Place)
      (row : Forest) → IsRow (suc i) row → drawn (own b) (parts k n d row) ≡ []
  later_drawn n i c f at d Bare w = refl
  later_drawn n i c f at d (Grow l kids rest) w =
      let lo = low g (can b fu) n (Pdo c f) at in
      ap (λ (o : Option Forest). drawn_pdo (part_number k n l.at) d o
      ++ drawn (own b) (parts k n d rest))
      (own_later n (part_number k n l.at) c f at (number_mod k n l.at lo) (λ e.
      let same : l.at ≡ 0 = sym (number_div k n l.at lo)
      ∙ ap (λ (x : ℕ). x / k) (e ∙ sym (first_number k n)) ∙ number_div k n 0 lo in
      let z = w.0 in omega arith) d)
      ∙ later_drawn n (suc i) c f at d rest w.2

  node_drawn : (n : ℕ) (x : Node) → node_at es n ≡ Some x
      → drawn (own b) (parts_of_node k n (reread r x)) ≡ entry n (whole_node b n x) ∷ []
  node_drawn n (Pdo c f) at =
      let s = step_at_node g (can b fu) n c f at in
      by f (row_of f s) (filled f s)
    where
      by : (row : Forest) → IsRow 0 row → (row ≡ Bare → ⊥)
          → drawn (own b) (parts k n (r c) row)
          ≡ entry n (Pdo (r c) (rooted (parted b) (sites g n))) ∷ []
      by Bare w z = absurd (z refl)
      by (Grow l kids rest) w z =
          ap (λ (q : ℕ). drawn_pdo q (r c) (own b q (r c)) ++ drawn (own b) (parts k n (r c) rest))
          (ap (part_number k n) w.0 ∙ first_number k n)
          ∙ ap (λ (o : Option Forest). drawn_pdo n (r c) o ++ drawn (own b) (parts k n (r c) rest))
          (own_first n c f at (r c))
          ∙ ap (λ (xs : List Entry). entry n (Pdo (r c) (rooted (parted b) (sites g n))) ∷ xs)
          (later_drawn n 0 c f at (r c) rest w.2)
  node_drawn n _ at = refl

  all_drawn : (ds : List Entry) → Each (λ (e : Entry). node_at es e.number ≡ Some e.node) ds
      → drawn (own b) (all_parts k r ds) ≡ map (whole b) ds
  all_drawn [] a = refl
  all_drawn (e ∷ ds) a =
      flat_map-append (λ (h : Entry). drawn_node (own b) h.number h.node)
      (parts_of_node k e.number (reread r e.node)) (all_parts k r ds)
      ∙ ap (λ (xs : List Entry). xs ++ drawn (own b) (all_parts k r ds))
      (node_drawn e.number e.node a.0)
      ∙ ap (λ (xs : List Entry). whole b e ∷ xs) (all_drawn ds a.1)

  pub own_drawn : drawn (own b) (parted_nodes g) ≡ hs
  own_drawn = all_drawn es (found b fu)

  -- ---- the state
  differ_whole : (ds : List Entry) → AllDiffer ds → AllDiffer (map (whole b) ds)
  differ_whole [] d = tt
  differ_whole (e ∷ ds) d = (
    all_map (whole b) (λ (x : Entry). x.number ≡ e.number → ⊥) (λ (x : Entry). x.number ≡ e.number
        → ⊥)
        (λ x f. f) ds d.0,
    differ_whole ds d.1,
  )

  outs_whole : (n : ℕ) (x : Node) → node_at es n ≡ Some x → HasOuts (whole_node b n x)
  outs_whole n (Pdo c f) at =
      let s = step_at_node g (can b fu) n c f at in
      outs_differ (reads_output (parted b))
      (planted (step_at (siblings_of (parted b))) bare (sites g n))
      (λ q.
      let e : times q (sites g n) ≡ times q (outputs_of k n f) =
      ap (times q) (sites_at b fu n c f at) in
      let o = sites_once k n 0 q f (low g (can b fu) n (Pdo c f) at) (row_of f s) in
      let p = ap (times q) (rooted_numbers (parted b) (sites g n)) in
      omega arith)
  outs_whole n _ at = tt

  abbrev IsRead : Place → Type 0
  IsRead c = is_read g c ≡ true

  fine_all : (ds : List Place) → Each (IsThere es) ds → Each IsRead ds → Each (IsFine hs) (map r ds)
  fine_all ds t a = all_map r (λ c. IsThere es c × IsRead c) (IsFine hs)
      (λ c h. fine_part b fu c h.0 h.1) ds
      (Each-both (IsThere es) IsRead (λ c. IsThere es c × IsRead c) (λ c x y. (x, y)) ds t a)

  reads_whole : (n : ℕ) (x : Node) → Each (IsThere es) (reads x) → Each IsRead (reads x)
      → Each (IsFine hs) (reads (whole_node b n x))
  reads_whole n (Source s) t a = tt
  reads_whole n (Flatten ins) t a = fine_all ins t a
  reads_whole n (Pdo c f) t a = fine_all (c ∷ []) t a
  reads_whole n (Gbk c o l m) t a = fine_all (c ∷ []) t a
  reads_whole n (Barrier ins o l d) t a = fine_all ins t a

  owned : (n : ℕ) (x : Node) → node_at es n ≡ Some x
      → (i : ℕ) → holds_out i (whole_node b n x) ≡ true → i % k ≡ n
  owned n x at i h = (holds_mod b fu n i x at h).0

  from_found : (Q : Entry → Type 0)
      → ((e : Entry) → node_at es e.number ≡ Some e.node → Q (whole b e)) → Each Q hs
  from_found Q h = all_map (whole b) (λ (e : Entry). node_at es e.number ≡ Some e.node) Q h es
      (found b fu)

  pub whole_state : IsState hs outs
  whole_state = record {
    differ = differ_whole es (can b fu).ok.differ;
    apart = from_found (λ (h : Entry). HasOuts h.node) (λ e at. outs_whole e.number e.node at);
    owner = λ i. i % k;
    owned = from_found (λ (h : Entry). (i : ℕ) → holds_out i h.node ≡ true → i % k ≡ h.number)
        (λ e at. owned e.number e.node at);
    fine = from_found (λ (h : Entry). Each (IsFine hs) (reads h.node))
        (λ e at. reads_whole e.number e.node
        (all_found (λ (d : Entry). Each (IsThere es) (reads d.node)) es e.number e.node at
        (can b fu).ok.there)
        (all_found (λ (d : Entry). Each IsRead (reads d.node)) es e.number e.node at
        (nodes_read g)));
    told = fine_all g.outputs (can b fu).ok.told (outputs_read g);
  }

  -- ---- the graph
  abbrev now : Place → Place
  now = new_place (wholes b)

  same_map : (ds : List Place) → Each (IsThere es) ds → Each IsRead ds → map now (map r ds) ≡ ds
  same_map [] t a = refl
  same_map (d ∷ ds) t a =
      ap (λ (x : Place). x ∷ map now (map r ds)) (place_part b fu d t.0 a.0)
      ∙ ap (λ (xs : List Place). d ∷ xs) (same_map ds t.1 a.1)

  node_same : (n : ℕ) (x : Node) → node_at es n ≡ Some x → Each (IsThere es) (reads x)
      → Each IsRead (reads x) → finished_entry now (entry n (whole_node b n x)) ≡ entry n x
  node_same n (Source s) at t a = refl
  node_same n (Flatten ins) at t a = ap (λ (l : List Place). entry n (Flatten l)) (same_map ins t a)
  node_same n (Pdo c f) at t a =
      let s = step_at_node g (can b fu) n c f at in
      let ok = ok_at b fu n (Pdo c f) at in
      ap (λ (x : Place). entry n (Pdo x (numbered 0 (rooted (parted b) (sites g n)))))
      (place_part b fu c t.0 a.0)
      ∙ ap (λ (l : List ℕ). entry n (Pdo c (numbered 0 (rooted (parted b) l))))
      (sites_at b fu n c f at)
      ∙ ap (λ (x : Forest). entry n (Pdo c x))
      (row_numbered b n 0 0 f (row_of f s) (stands b fu n c f at ok) ok.order)
  node_same n (Gbk c o l m) at t a =
      ap (λ (x : Place). entry n (Gbk x o l m)) (place_part b fu c t.0 a.0)
  node_same n (Barrier ins o y d) at t a =
      ap (λ (l : List Place). entry n (Barrier l o y d)) (same_map ins t a)

  nodes_same : (ds : List Entry) → Each (λ (e : Entry). node_at es e.number ≡ Some e.node) ds
      → Each (λ (e : Entry). Each (IsThere es) (reads e.node)) ds
      → Each (λ (e : Entry). Each IsRead (reads e.node)) ds
      → map (finished_entry now) (map (whole b) ds) ≡ ds
  nodes_same [] f t a = refl
  nodes_same (e ∷ ds) f t a =
      ap (λ (x : Entry). x ∷ map (finished_entry now) (map (whole b) ds))
      (node_same e.number e.node f.0 t.0 a.0)
      ∙ ap (λ (xs : List Entry). e ∷ xs) (nodes_same ds f.1 t.1 a.1)

  pub whole_graph : graph_of hs outs k ≡ g
  whole_graph = graph_alike (graph_of hs outs k) g
      (nodes_same es (found b fu) (can b fu).ok.there (nodes_read g))
      (same_map g.outputs (can b fu).ok.told (outputs_read g)) refl

  -- ---- what is read
  row_uses : (v c : Place) (n : ℕ) (row : Forest) → (row ≡ Bare → ⊥)
      → (same_place v c || false) ≡ any_node (uses v) (parts k n c row)
  row_uses v c n Bare z = absurd (z refl)
  row_uses v c n (Grow l kids rest) z = by rest
    where
      twice : (t u : Bool) → (t || false) ≡ u → (t || false) ≡ ((t || false) || u)
      twice true u e = refl
      twice false u e = e

      once : (t : Bool) → (t || false) ≡ ((t || false) || false)
      once true = refl
      once false = refl

      by : (rest : Forest)
          → (same_place v c || false)
          ≡ ((same_place v c || false) || any_node (uses v) (parts k n c rest))
      by Bare = once (same_place v c)
      by (Grow m others more) = twice (same_place v c)
          ((same_place v c || false) || any_node (uses v) (parts k n c more)) (by more)

  node_uses : (v : Place) (n : ℕ) (x : Node) → node_at es n ≡ Some x
      → uses v (whole_node b n x) ≡ any_node (uses v) (parts_of_node k n (reread r x))
  node_uses v n (Source s) at = refl
  node_uses v n (Flatten ins) at = or_no (among v (map r ins))
    where
      or_no : (t : Bool) → t ≡ (t || false)
      or_no true = refl
      or_no false = refl
  node_uses v n (Pdo c f) at = row_uses v (r c) n f (filled f (step_at_node g (can b fu) n c f at))
  node_uses v n (Gbk c o l m) at = or_no (same_place v (r c))
    where
      or_no : (t : Bool) → t ≡ (t || false)
      or_no true = refl
      or_no false = refl
  node_uses v n (Barrier ins o l a) at = or_no (among v (map r ins))
    where
      or_no : (t : Bool) → t ≡ (t || false)
      or_no true = refl
      or_no false = refl

  any_uses : (v : Place) (ds : List Entry)
      → Each (λ (e : Entry). node_at es e.number ≡ Some e.node) ds
      → any_node (uses v) (map (whole b) ds) ≡ any_node (uses v) (all_parts k r ds)
  any_uses v [] a = refl
  any_uses v (e ∷ ds) a =
      ap (λ (t : Bool). t || any_node (uses v) (map (whole b) ds)) (node_uses v e.number e.node a.0)
      ∙ ap (λ (t : Bool). any_node (uses v) (parts_of_node k e.number (reread r e.node)) || t)
      (any_uses v ds a.1)
      ∙ sym (any_append (uses v) (parts_of_node k e.number (reread r e.node)) (all_parts k r ds))

  pub whole_reads : (v : Place) → is_read (named_graph hs outs) v ≡ is_read (parted b).graph v
  whole_reads v = ap (λ (t : Bool). t || among v outs) (any_uses v es (found b fu))
