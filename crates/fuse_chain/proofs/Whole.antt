-- Where the outputs of each step stand side by side, the state of their Pdos is the graph itself.
use Rattle.std.proofs.Common.{◌≡◌, ℕ, ◌%◌, ◌<◌, Bool, true, false, cond, eqb, ◌||◌, List, [], ◌∷◌, map, Option, Some, None, refl, sym, ap, ◌∙◌, subst}
use Rattle.std.proofs.lemmas.Bool.{eqb-true, false≢true}
use Rattle.std.specs.List.{AllByRecursion as Each}
use Rattle.exec_graph.specs.Forests.{Forest, Bare, Grow}
use Rattle.exec_graph.specs.Meaning.{place, node_at, has_out, gives_at, IsThere}
use Rattle.exec_graph.specs.Readers.{any_node, is_read, same_place}
use Rattle.exec_graph.specs.Wellformed.{IsNodeOk}
use Rattle.exec_graph.specs.declared.graph.Place.{Place}
use Rattle.exec_graph.specs.declared.graph.Node.{Node}
use Rattle.exec_graph.specs.declared.graph.Node.TheVariants.{Source, Flatten, Pdo, Gbk, Barrier}
use Rattle.exec_graph.specs.declared.graph.Entry.{Entry}
use Rattle.exec_graph.specs.declared.graph.Graph.{Graph}
use Rattle.exec_graph.specs.declared.graph.Blocked.{Blocked}
use Rattle.exec_graph.proofs.Entries.{all_found, entry}
use Rattle.exec_graph.proofs.Solving.{each_found, there_found}
use Rattle.graph_laws.specs.Kids.{number_after}
use Rattle.pardo_fuse.specs.Fusing.{holds_out, is_first, step_in}
use Rattle.pardo_fuse.specs.SingleFusing.{new_place, step_of}
use Rattle.pardo_fuse.specs.Parting.{part_number, at_of, part_at, part_place, parted, parted_nodes, sole_output}
use Rattle.pardo_fuse.specs.Readers.{is_pdo}
use Rattle.pardo_fuse.specs.Wellformed.{IsFusible}
use Rattle.pardo_fuse.proofs.Counting.{times}
use Rattle.pardo_fuse.proofs.Finding.{not_new}
use Rattle.pardo_fuse.proofs.PartedNodes.{can_part, read_part}
use Rattle.pardo_fuse.proofs.Parting.{EachLabel, IsRow, first_number, label_both, labels_has, number_mod, row_of, small_mod}
use Rattle.pardo_fuse.proofs.Places.{pdo_is}
use Rattle.pardo_fuse.proofs.Hanging.{can_mark}
use Rattle.pardo_fuse.proofs.Seeing.{any_at}
use Rattle.pardo_fuse.proofs.SiteKids.{filled, read_none}
use Rattle.pardo_fuse.proofs.Sites.{missed, outputs_of, sites}
use Rattle.pardo_fuse.proofs.Unparting.{CanPart, label_found, low, part_label, part_same, step_at_node}
use Rattle.fuse_chain.proofs.SideBySide.{reads_output, rooted}
use Rattle.fuse_chain.proofs.Plans.{Plan}
use Rattle.fuse_chain.proofs.States.{IsFine, new_at}
use Rattle.fuse_chain.proofs.Rows.{is_some, rooted_has, rooted_in, row_number, site_in, sites_mod, Stands}

-- ---- the nodes

abbrev pub whole_node : Blocked → ℕ → Node → Node
whole_node b n (Source r) = Source r
whole_node b n (Flatten ins) = Flatten (map (part_place b.graph) ins)
whole_node b n (Pdo c f) = Pdo (part_place b.graph c) (rooted (parted b) (sites b.graph n))
whole_node b n (Gbk c o l k) = Gbk (part_place b.graph c) o l k
whole_node b n (Barrier ins o l a) = Barrier (map (part_place b.graph) ins) o l a

abbrev pub whole : Blocked → Entry → Entry
whole b e = entry e.number (whole_node b e.number e.node)

abbrev pub wholes : Blocked → List Entry
wholes b = map (whole b) b.graph.nodes

-- The first output of a step stands for it, with the others.
abbrev pub own : Blocked → Plan
own b q c = cond (is_first q (sites b.graph (q % b.graph.next)))
    (Some (rooted (parted b) (sites b.graph (q % b.graph.next)))) None

-- The graph, its numbers and nodes, where a former collection is, and the parts.
pub record Scene : Type 0 where
  pub g : Graph
  pub k : ℕ
  pub es : List Entry
  pub r : Place → Place
  pub ps : List Entry
  pub outs : List Place

abbrev pub scene : Blocked → Scene
scene b = record {
  g = b.graph;
  k = b.graph.next;
  es = b.graph.nodes;
  r = part_place b.graph;
  ps = parted_nodes b.graph;
  outs = map (part_place b.graph) b.graph.outputs;
}

module _ (b : Blocked) (fu : IsFusible b) where
  open (scene b) use {g, k, es, r}

  pub can : CanPart b.graph
  can = can_part b fu

  abbrev hs : List Entry
  hs = wholes b

  pub found : Each (λ (e : Entry). node_at es e.number ≡ Some e.node) es
  found = each_found es can.ok.differ

  -- The sites of a Pdo.
  pub sites_at : (n : ℕ) (c : Place) (f : Forest) → node_at es n ≡ Some (Pdo c f)
      → sites g n ≡ outputs_of k n f
  sites_at n c f at = ap (λ (o : Option Node). outputs_of k n (step_in o)) at

  pub first_site : (n : ℕ) (c : Place) (f : Forest) → node_at es n ≡ Some (Pdo c f)
      → (ns : List ℕ) × (sites g n ≡ n ∷ ns)
  first_site n c f at =
      let s = step_at_node g can n c f at in
      by f (row_of f s) (filled f s) (sites_at n c f at)
    where
      by : (f : Forest) → IsRow 0 f → (f ≡ Bare → ⊥) → sites g n ≡ outputs_of k n f
          → (ns : List ℕ) × (sites g n ≡ n ∷ ns)
      by Bare w z e = absurd (z refl)
      by (Grow l kids rest) w z e = (
        outputs_of k n rest,
        e ∙ ap (λ (x : ℕ). x ∷ outputs_of k n rest) (ap (part_number k n) w.0 ∙ first_number k n),
      )

  pub stands : (n : ℕ) (c : Place) (f : Forest) → node_at es n ≡ Some (Pdo c f)
      → IsNodeOk g n (Pdo c f)
      → EachLabel (Stands b n) f
  stands n c f at ok =
      label_both (λ l. node_at (parted_nodes g) (part_number k n l.at) ≡ Some
      (Pdo (r c) (sole_output l)))
      (λ l. reads_output (parted b) (part_number k n l.at) ≡ is_some l.out) (Stands b n)
      (λ l x y. (ap step_of x, y)) f (label_found g can n c f at)
      (label_both (λ l. l.out ≡ None → (d : Place) → IsThere es d
      → same_place (place (part_number k n l.at) 0) (r d) ≡ false)
      (λ l. (j : ℕ) → l.out ≡ Some j → (r (place n j) ≡ place (part_number k n l.at) 0)
      × (is_read g (place n j) ≡ true))
      (λ l. reads_output (parted b) (part_number k n l.at) ≡ is_some l.out)
      (λ l none some. by l.out (part_number k n l.at) (λ e d t. none e d t) (λ j e. some j e)) f
      (missed g can n c f at)
      (label_both (λ l. (j : ℕ) → l.out ≡ Some j → r (place n j) ≡ place (part_number k n l.at) 0)
      (λ l. (j : ℕ) → l.out ≡ Some j → has_out j f ≡ true)
      (λ l. (j : ℕ) → l.out ≡ Some j → (r (place n j) ≡ place (part_number k n l.at) 0)
      × (is_read g (place n j) ≡ true))
      (λ l x y j e. (x j e, ok.read j (y j e))) f (part_label g can n c f at) (labels_has f)))
    where
      by : (o : Option ℕ) (q : ℕ) → (o ≡ None → (d : Place) → IsThere es d
          → same_place (place q 0) (r d) ≡ false)
          → ((j : ℕ) → o ≡ Some j → (r (place n j) ≡ place q 0) × (is_read g (place n j) ≡ true))
          → reads_output (parted b) q ≡ is_some o
      by None q none some = read_none b (can_mark b fu) (place q 0) (λ d t. none refl d t)
      by (Some j) q none some =
          ap (is_read (parted b).graph) (sym (some j refl).0)
          ∙ read_part g can (place n j) (some j refl).1

  pub ok_at : (n : ℕ) (x : Node) → node_at es n ≡ Some x → IsNodeOk g n x
  ok_at n x at = all_found (λ (e : Entry). IsNodeOk g e.number e.node) es n x at fu.ok.ok.nodes

  -- ---- where a node is
  whole_at : (ds : List Entry) (n : ℕ) (x : Node) → node_at ds n ≡ Some x
      → node_at (map (whole b) ds) n ≡ Some (whole_node b n x)
  whole_at [] n x at = let bad : ⊥ = cc in absurd bad
  whole_at (e ∷ ds) n x at = by (eqb e.number n) refl at (whole_at ds n x)
    where
      by : (t : Bool) → eqb e.number n ≡ t → cond t (Some e.node) (node_at ds n) ≡ Some x
          → (node_at ds n ≡ Some x → node_at (map (whole b) ds) n ≡ Some (whole_node b n x))
          → cond t (Some (whole_node b e.number e.node)) (node_at (map (whole b) ds) n)
          ≡ Some (whole_node b n x)
      by true q h f = let same : e.node ≡ x = cc in
          ap (λ (m : ℕ). Some (whole_node b m e.node)) (eqb-true e.number n q)
          ∙ ap (λ (y : Node). Some (whole_node b n y)) same
      by false q h f = f h

  pdo_at : (n : ℕ) (c : Place) (f : Forest) → node_at es n ≡ Some (Pdo c f)
      → node_at hs n ≡ Some (Pdo (r c) (rooted (parted b) (sites g n)))
  pdo_at n c f at = whole_at es n (Pdo c f) at

  pdo_same : (n : ℕ) (x : Node) → is_pdo (Some (whole_node b n x)) ≡ is_pdo (Some x)
  pdo_same n (Source s) = refl
  pdo_same n _ = refl

  -- ---- the outputs that are held
  pub holds_mod : (n i : ℕ) (x : Node) → node_at es n ≡ Some x
      → holds_out i (whole_node b n x) ≡ true
      → (i % k ≡ n) × (is_pdo (Some x) ≡ true)
  holds_mod n i (Pdo c f) at h = (
    sites_mod k n f i (low g can n (Pdo c f) at)
        (subst (λ (l : List ℕ). 0 < times i l) (sites_at n c f at)
        (rooted_in (parted b) (sites g n) i h)),
    refl,
  )
  holds_mod n i _ at h = absurd (false≢true h)

  not_held : (i : ℕ) → i < k → is_pdo (node_at es i) ≡ false → any_node (holds_out i) hs ≡ false
  not_held i lo none = all es found
    where
      here : (n : ℕ) (x : Node) → node_at es n ≡ Some x → (t : Bool)
          → holds_out i (whole_node b n x) ≡ t → t ≡ false
      here n x at true h =
          let w = holds_mod n i x at h in
          let same : n ≡ i = sym w.0 ∙ small_mod k i lo in
          absurd (false≢true (sym none ∙ ap (λ (m : ℕ). is_pdo (node_at es m)) (sym same)
          ∙ ap is_pdo at ∙ w.1))
      here n x at false h = refl

      all : (ds : List Entry) → Each (λ (e : Entry). node_at es e.number ≡ Some e.node) ds
          → any_node (holds_out i) (map (whole b) ds) ≡ false
      all [] a = refl
      all (e ∷ ds) a =
          ap (λ (t : Bool). t || any_node (holds_out i) (map (whole b) ds))
          (here e.number e.node a.0 (holds_out i (whole_node b e.number e.node)) refl)
          ∙ all ds a.1

  -- An output of a Pdo, where it is read.
  pub record IsHeld (c : Place) : Type 0 where
    pub source : Place
    pub forest : Forest
    pub at : node_at es c.node ≡ Some (Pdo source forest)
    pub is : r c ≡ place (part_number k c.node (at_of c.out forest)) 0
    pub has : has_out (part_number k c.node (at_of c.out forest))
        (rooted (parted b) (sites g c.node)) ≡ true
    pub out : has_out c.out forest ≡ true

  held_at : (c : Place) → IsThere es c → is_read g c ≡ true → (d : Place) (f : Forest)
      → node_at es c.node ≡ Some (Pdo d f) → IsHeld c
  held_at c t read d f at =
      let has : has_out c.out f ≡ true = sym (ap (λ (o : Option Node). gives_at o c.out) at) ∙ t in
      let row = row_of f (step_at_node g can c.node d f at) in
      let q : ℕ = part_number k c.node (at_of c.out f) in
      let is : r c ≡ place q 0 = ap (part_at k c) at in
      record {
        source = d;
        forest = f;
        at = at;
        is = is;
        has = rooted_has (parted b) (sites g c.node) q
            (subst (λ (l : List ℕ). 0 < times q l) (sym (sites_at c.node d f at))
            (site_in k c.node c.out f has 0 row))
            (ap (is_read (parted b).graph) (sym is) ∙ read_part g can c read);
        out = has;
      }

  low_there : (c : Place) → IsThere es c → c.node < k
  low_there c t = let x = there_found es c t in low g can c.node x.0 x.1

  any_held : (c : Place) → IsHeld c → any_node (holds_out (r c).node) hs ≡ true
  any_held c h = any_at (holds_out (r c).node) hs c.node
      (Pdo (r h.source) (rooted (parted b) (sites g c.node)))
      (pdo_at c.node h.source h.forest h.at)
      (ap (λ (x : Place). has_out x.node (rooted (parted b) (sites g c.node))) h.is ∙ h.has)

  pub fine_part : (c : Place) → IsThere es c → is_read g c ≡ true → IsFine hs (r c)
  fine_part c t read = by (is_pdo (node_at es c.node)) refl
    where
      x : (x : Node) × (node_at es c.node ≡ Some x) × (gives_at (Some x) c.out ≡ true)
      x = there_found es c t

      by : (s : Bool) → is_pdo (node_at es c.node) ≡ s → IsFine hs (r c)
      by true h =
          let p = pdo_is (node_at es c.node) h in
          let held : IsHeld c = held_at c t read p.0 p.1 p.2 in
          record {
            there = λ _. ap (λ (y : Place). y.out) held.is;
            other = λ none. absurd (false≢true (sym none ∙ any_held c held));
          }
      by false h =
          let same : r c ≡ c = part_same g c x.0 x.1 (sym (ap is_pdo x.1) ∙ h) in
          record {
            there = λ held. absurd (false≢true (sym (not_held c.node (low_there c t) h)
                ∙ ap (λ (y : Place). any_node (holds_out y.node) hs) (sym same) ∙ held));
            other = λ _. ap (λ (y : Place). is_pdo (node_at hs y.node)) same
                ∙ ap is_pdo (whole_at es c.node x.0 x.1) ∙ pdo_same c.node x.0
                ∙ sym (ap is_pdo x.1) ∙ h;
          }

  -- And where it is then, is where it was.
  pub place_part : (c : Place) → IsThere es c → is_read g c ≡ true → new_place hs (r c) ≡ c
  place_part c t read = by (is_pdo (node_at es c.node)) refl
    where
      x : (x : Node) × (node_at es c.node ≡ Some x) × (gives_at (Some x) c.out ≡ true)
      x = there_found es c t

      by : (s : Bool) → is_pdo (node_at es c.node) ≡ s → new_place hs (r c) ≡ c
      by true h =
          let p = pdo_is (node_at es c.node) h in
          let held : IsHeld c = held_at c t read p.0 p.1 p.2 in
          let f : Forest = held.forest in
          let lo : c.node < k = low_there c t in
          let ok = ok_at c.node (Pdo held.source f) held.at in
          let row = row_of f (step_at_node g can c.node held.source f held.at) in
          new_at hs (λ i. i % k) c.node (Pdo (r held.source) (rooted (parted b) (sites g c.node)))
          (r c)
          owned (pdo_at c.node held.source f held.at)
          (ap (λ (y : Place). y.node % k) held.is ∙ number_mod k c.node (at_of c.out f) lo)
          (ap (λ (y : Place). has_out y.node (rooted (parted b) (sites g c.node))) held.is
          ∙ held.has)
          ∙ ap (λ (y : Place). place c.node
          (number_after 0 (rooted (parted b) (sites g c.node)) y.node)) held.is
          ∙ ap (λ (l : List ℕ). place c.node (number_after 0 (rooted (parted b) l)
          (part_number k c.node (at_of c.out f)))) (sites_at c.node held.source f held.at)
          ∙ ap (place c.node) (row_number b c.node 0 0 c.out f lo row
          (stands c.node held.source f held.at ok) ok.order held.out)
        where
          owned_all : (ds : List Entry) → Each (λ (e : Entry). node_at es e.number ≡ Some e.node) ds
              → Each (λ (h : Entry). (i : ℕ) → holds_out i h.node ≡ true → i % k ≡ h.number)
              (map (whole b) ds)
          owned_all [] a = tt
          owned_all (e ∷ ds) a = (
            λ i h. (holds_mod e.number i e.node a.0 h).0,
            owned_all ds a.1,
          )

          owned : Each (λ (h : Entry). (i : ℕ) → holds_out i h.node ≡ true → i % k ≡ h.number) hs
          owned = owned_all es found
      by false h =
          let same : r c ≡ c = part_same g c x.0 x.1 (sym (ap is_pdo x.1) ∙ h) in
          not_new (r c) hs (ap (λ (y : Place). any_node (holds_out y.node) hs) same
          ∙ not_held c.node (low_there c t) h) ∙ same
