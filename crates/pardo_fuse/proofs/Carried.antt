-- A graph whose nodes all stand under other numbers, which tell the nodes apart, is as good as it
-- was.
use Rattle.std.proofs.Common.{◌≡◌, ℕ, ◌<◌, ◌≤◌, ◌⊎◌, inl, inr, true, false, List, [], ◌∷◌, map, Some, refl, sym, ap, ◌∙◌, subst, arith}
use Rattle.std.specs.List.{AllByRecursion as Each, flat_map}
use Rattle.std.proofs.lemmas.Bool.{false≢true}
use Rattle.std.proofs.lemmas.List.{length-map}
use Rattle.graph_laws.specs.of_combine_table.declared.comb.Comb.{Comb}
use Rattle.exec_graph.specs.of_flume_collection.Collection.{Collection}
use Rattle.exec_graph.specs.of_flume_collection.Sets.{gather, put_new}
use Rattle.exec_graph.specs.of_flume_collection.Traps.{trap_le}
use Rattle.exec_graph.proofs.of_flume_collection.Bagging.{Swaps}
use Rattle.exec_graph.proofs.of_flume_collection.Orders.{bags, one_bag, sets}
use Rattle.flume_value.proofs.EachLemmas.{Each-both, Each-weaker}
use Rattle.flume_value.specs.Bag.{put}
use Rattle.exec_graph.specs.Meaning.{AllDiffer, HasOuts, Holds, IsSound, IsThere, KeepsMeaning, node_at, own, place, reads, traps}
use Rattle.exec_graph.specs.Readers.{among, any_node, calls_on, collects, is_read, readers, uses}
use Rattle.exec_graph.specs.Typing.{KeepsTypes, NodeTyped}
use Rattle.exec_graph.specs.Wellformed.{Ascends, HaveObjects, IsGraphOk, IsLiftedOk, IsNodeOk, comb_at, has_objects, is_object, is_object_at, most_nodes, total_size}
use Rattle.exec_graph.specs.declared.graph.Place.{Place}
use Rattle.exec_graph.specs.declared.graph.Node.{Node}
use Rattle.exec_graph.specs.declared.graph.Node.TheVariants.{Flatten, Pdo, Gbk}
use Rattle.exec_graph.specs.declared.graph.Entry.{Entry}
use Rattle.exec_graph.specs.declared.graph.Graph.{Graph}
use Rattle.exec_graph.proofs.Bools.{not_true, or_cases, or_left, or_right}
use Rattle.exec_graph.proofs.Entries.{all_found, all_map, entry}
use Rattle.exec_graph.proofs.Solving.{gives_found}
use Rattle.graph_laws.specs.Joining.{reread}
use Rattle.graph_laws.proofs.Joining.{map_reread, own-reread, traps-reread}
use Rattle.graph_laws.proofs.Kids.{IsKept}
use Rattle.graph_laws.proofs.Nearly.{comb_mapped}
use Rattle.graph_laws.proofs.ObjectNodes.{object_mapped, objects_reread_there}
use Rattle.graph_laws.proofs.Reading.{any_here, those_has}
use Rattle.graph_laws.proofs.Wellness.{outs_reread, reads_reread, there_by}
use Rattle.pardo_fuse.specs.Renumbering.{at_number}
use Rattle.graph_laws.proofs.TypedGraphs.{typed_at}
use Rattle.pardo_fuse.proofs.Elsewhere.{KeepsApart, among_from, among_to, calls_from, calls_to, collects_from, gives_reread, holds_moved, uses_to}
use Rattle.pardo_fuse.proofs.Passing.{any_found, any_listed, those_single}

-- The node n is l n among the nodes es, o tells n again, and no other nodes are there.
pub record IsMoved (g : Graph) (l o : ℕ → ℕ) (es : List Entry) : Type 1 where
  pub differ : AllDiffer es
  pub back : (n : ℕ) (z : Node) → node_at g.nodes n ≡ Some z → o (l n) ≡ n
  pub at_new : (n : ℕ) (z : Node) → node_at g.nodes n ≡ Some z
      → node_at es (l n) ≡ Some (reread (at_number l) z)
  pub each_new : (P : Entry → Type 0) → ((n : ℕ) (z : Node) → node_at g.nodes n ≡ Some z
      → P (entry (l n) (reread (at_number l) z))) → Each P es
  pub sum : {Y B : Type 0} (s : Y → B → B) → Swaps s → (F G : Node → List Y)
      → ((n : ℕ) (z : Node) → node_at g.nodes n ≡ Some z → G (reread (at_number l) z) ≡ F z)
      → (b : B) → gather s (flat_map (λ (e : Entry). F e.node) g.nodes) b
      ≡ gather s (flat_map (λ (e : Entry). G e.node) es) b

-- ---- the graph
module _ (g : Graph) (l o : ℕ → ℕ) (es : List Entry) (ok : IsSound g)
    (moves : IsMoved g l o es) where
  abbrev x : Place → Place
  x = at_number l

  abbrev new : Graph
  new = record { nodes = es; outputs = map x g.outputs; next = g.next }

  -- what a node was before
  pub record Was (m : ℕ) (z : Node) : Type 0 where
    pub number : ℕ
    pub node : Node
    pub at : node_at g.nodes number ≡ Some node
    pub is : m ≡ l number
    pub same : z ≡ reread x node

  pub was : (m : ℕ) (z : Node) → node_at es m ≡ Some z → Was m z
  was m z at =
      all_found (λ e. Was e.number e.node) es m z at
      (moves.each_new (λ e. Was e.number e.node) (λ n y at. record {
        number = n;
        node = y;
        at = at;
        is = refl;
        same = refl;
      }))

  -- ---- it has a meaning
  back_there : (y : Place) → IsThere g.nodes y → o (l y.node) ≡ y.node
  back_there y t = let z = gives_found (node_at g.nodes y.node) y.out t in moves.back y.node z.0 z.1

  pub there : (y : Place) → IsThere g.nodes y → IsThere new.nodes (x y)
  there y t =
      let z = gives_found (node_at g.nodes y.node) y.out t in
      there_by new.nodes (x y) (l y.node) (reread x z.0) refl (moves.at_new y.node z.0 z.1)
      (gives_reread x z.0 y.out ∙ z.2)

  -- two that are there stay apart
  pub far : (y e : Place) → IsThere g.nodes y → IsThere g.nodes e → KeepsApart x y e
  far y e s t i =
      let a = gives_found (node_at g.nodes y.node) y.out s in
      let b = gives_found (node_at g.nodes e.node) e.out t in
      ap (λ (n : ℕ). place n y.out) (sym (moves.back y.node a.0 a.1)
      ∙ ap (λ (c : Place). o c.node) i ∙ moves.back e.node b.0 b.1)
      ∙ ap (λ (j : ℕ). place e.node j) (ap (λ (c : Place). c.out) i)

  pub reads_there : (n : ℕ) (z : Node) → node_at g.nodes n ≡ Some z
      → Each (IsThere g.nodes) (reads z)
  reads_there n z at =
      all_found (λ e. Each (IsThere g.nodes) (reads e.node)) g.nodes n z at ok.there

  -- what holds of each place that is there holds of what a node reads
  reads_all : (P : Place → Type 0) → ((y : Place) → IsThere g.nodes y → P y) → (n : ℕ)
      (z : Node) → node_at g.nodes n ≡ Some z → Each P (reads z)
  reads_all P a n z at = Each-weaker (IsThere g.nodes) P a (reads z) (reads_there n z at)

  sound : IsSound new
  sound =
      let ra : ℕ → ℕ = ok.ranked.0 in
      let rb : ℕ → ℕ = λ n. ra (o n) in
      record {
        differ = moves.differ;
        there = moves.each_new (λ e. Each (IsThere new.nodes) (reads e.node))
            (λ n z at. reads_reread (IsThere g.nodes) (IsThere new.nodes) x there z
            (reads_there n z at));
        told = all_map x (IsThere g.nodes) (IsThere new.nodes) there g.outputs ok.told;
        outs = moves.each_new (λ e. HasOuts e.node)
            (λ n z at. outs_reread x z (all_found (λ e. HasOuts e.node) g.nodes n z at ok.outs));
        ranked = (
          rb,
          moves.each_new (λ e. Each (λ (y : Place). rb y.node < rb e.number) (reads e.node))
              (λ n z at. reads_reread (λ (y : Place). rb (l y.node) < rb (l n))
              (λ (y : Place). rb y.node < rb (l n)) x (λ y h. h) z
              (Each-both (λ (y : Place). o (l y.node) ≡ y.node) (λ (y : Place). ra y.node < ra n)
              (λ (y : Place). rb (l y.node) < rb (l n))
              (λ y a h. subst (λ (k : ℕ). ra k < rb (l n)) (sym a)
              (subst (λ (k : ℕ). ra y.node < ra k) (sym (moves.back n z at)) h)) (reads z)
              (reads_all (λ y. o (l y.node) ≡ y.node) back_there n z at)
              (all_found (λ e. Each (λ (y : Place). ra y.node < ra e.number) (reads e.node))
              g.nodes n z at ok.ranked.1))),
        );
      }

  -- ---- what is said of the places
  abbrev carried : {X : Type 0} → (Place → X) → Place → X
  carried m y = m (place (o y.node) y.out)

  said : {X : Type 0} (m : Place → X) (ys : List Place) → Each (IsThere g.nodes) ys
      → Each (λ y. carried m (x y) ≡ m y) ys
  said m ys a = Each-weaker (IsThere g.nodes) (λ y. carried m (x y) ≡ m y)
      (λ y t. ap (λ (i : ℕ). m (place i y.out)) (back_there y t)) ys a

  -- what is said of a node is said of it where it is now
  each_carried : {X : Type 0} (m : Place → X) (P : (Place → X) → ℕ → Node → Type 0)
      → ((n q : ℕ) (z : Node) → Each (λ y. carried m (x y) ≡ m y) (reads z)
      → ((j : ℕ) → carried m (place q j) ≡ m (place n j)) → P m n z
      → P (carried m) q (reread x z))
      → Each (λ e. P m e.number e.node) g.nodes → Each (λ e. P (carried m) e.number e.node) es
  each_carried m P step all =
      moves.each_new (λ e. P (carried m) e.number e.node)
      (λ n z at. step n (l n) z (said m (reads z) (reads_there n z at))
      (λ j. ap (λ (i : ℕ). m (place i j)) (moves.back n z at))
      (all_found (λ e. P m e.number e.node) g.nodes n z at all))

  -- ---- the same meaning
  keeps : KeepsMeaning g new
  keeps w m meets =
      let k : Place → Collection = carried m in (
        k,
        each_carried m (Holds w) (λ n q z. holds_moved w k m x n q z) meets,
        record {
          outputs = sym (map_reread k m x g.outputs (said m g.outputs ok.told));
          own = λ i. one_bag (flat_map (λ (e : Entry). own w m i e.node) g.nodes)
              (flat_map (λ (e : Entry). own w k i e.node) es)
              (moves.sum put bags (own w m i) (own w k i)
              (λ n z at. own-reread w k m x i z (said m (reads z) (reads_there n z at))) []);
          traps = moves.sum (put_new trap_le) sets (traps w m) (traps w k)
              (λ n z at. traps-reread w k m x z (said m (reads z) (reads_there n z at))) [];
        },
      )

  -- ---- the same types
  types_kept : KeepsTypes g new
  types_kept s (types, fits) = (
    carried types,
    each_carried types (NodeTyped s) (λ n q z. typed_at s types (carried types) x n q z) fits,
  )

  -- ---- as well-formed
  read_still : (y : Place) → is_read g y ≡ true → is_read new (x y) ≡ true
  read_still y i =
      by (or_cases (any_node (uses y) g.nodes) (among y g.outputs) i)
    where
      by : (any_node (uses y) g.nodes ≡ true) ⊎ (among y g.outputs ≡ true)
          → is_read new (x y) ≡ true
      by (inl e) =
          let u = any_found (uses y) g.nodes ok.differ e in
          or_left (any_node (uses (x y)) new.nodes) (among (x y) new.outputs)
          (any_here (uses (x y)) new.nodes (l u.number) (reread x u.node)
          (moves.at_new u.number u.node u.at) (uses_to x y u.node u.passes))
      by (inr e) =
          or_right (any_node (uses (x y)) new.nodes) (among (x y) new.outputs)
          (among_to x y g.outputs e)

  untold : (y : Place) → IsThere g.nodes y → among y g.outputs ≡ false
      → among (x y) new.outputs ≡ false
  untold y t e =
      not_true (among (x y) new.outputs) (λ i. false≢true (sym e ∙ among_from x y g.outputs
      (Each-weaker (IsThere g.nodes) (KeepsApart x y) (λ c s. far y c t s) g.outputs ok.told) i))

  not_collected : (y : Place) → IsThere g.nodes y → any_node (collects y) g.nodes ≡ false
      → any_node (collects (x y)) new.nodes ≡ false
  not_collected y t e =
      not_true (any_node (collects (x y)) new.nodes) (λ i.
      let u = any_found (collects (x y)) es moves.differ i in
      let b = was u.number u.node u.at in
      let passes : collects y b.node ≡ true =
      collects_from x y b.node
      (reads_all (KeepsApart x y) (λ c s. far y c t s) b.number b.node b.at)
      (ap (collects (x y)) (sym b.same) ∙ u.passes) in
      false≢true (sym e ∙ any_here (collects y) g.nodes b.number b.node b.at passes))

  lifted_still : (n : ℕ) (k : Comb) → IsThere g.nodes (place n 0) → IsLiftedOk g n k
      → IsLiftedOk new (l n) k
  lifted_still n k t a =
      let y : Place = place n 0 in
      let u = any_found (calls_on y) g.nodes ok.differ
      (any_listed (calls_on y) g.nodes a.reader [] a.alone) in
      let one : ℕ → Type 0 = λ m. m ≡ a.reader in
      let only : Each one (readers g.nodes y) = subst (Each one) (sym a.alone) (refl, tt) in
      let is_u : u.number ≡ a.reader =
      those_has one (calls_on y) g.nodes u.number u.node u.at u.passes only in
      let at_r : node_at g.nodes a.reader ≡ Some u.node =
      ap (node_at g.nodes) (sym is_u) ∙ u.at in
      record {
        untold = untold y t a.untold;
        uncollected = not_collected y t a.uncollected;
        reader = l a.reader;
        alone = those_single (calls_on (x y)) new.nodes (l a.reader) (reread x u.node) moves.differ
            (moves.at_new a.reader u.node at_r) (calls_to x y u.node u.passes)
            (λ m z at passes.
            let b = was m z at in
            let calls : calls_on y b.node ≡ true =
            calls_from x y b.node
            (reads_all (KeepsApart x y) (λ c s. far y c t s) b.number b.node b.at)
            (ap (calls_on (x y)) (sym b.same) ∙ passes) in
            b.is ∙ ap l (those_has one (calls_on y) g.nodes b.number b.node b.at calls only));
        root = ap comb_at (moves.at_new a.reader u.node at_r) ∙ comb_mapped x (Some u.node)
            ∙ ap comb_at (sym at_r) ∙ a.root;
      }

  node_still : (n : ℕ) (z : Node) → node_at g.nodes n ≡ Some z → IsNodeOk g n z
      → IsNodeOk new (l n) (reread x z)
  node_still n (Flatten ins) at i =
      subst (λ (k : ℕ). (0 < k) × (k ≤ most_nodes)) (sym (length-map ins x)) i
  node_still n (Pdo e s) at i =
      record { order = i.order; read = λ j has. read_still (place n j) (i.read j has) }
  node_still n (Gbk e s h (Some k)) at i =
      lifted_still n k
      (there_by g.nodes (place n 0) n (Gbk e s h (Some k)) refl at refl) i
  node_still n _ at i = tt

  object_still : (y : Place) → IsThere g.nodes y → is_object_at new.nodes (x y)
      ≡ is_object_at g.nodes y
  object_still y t =
      let z = gives_found (node_at g.nodes y.node) y.out t in
      ap is_object (moves.at_new y.node z.0 z.1) ∙ object_mapped x (Some z.0)
      ∙ ap is_object (sym z.1)

  objects : HaveObjects g.nodes → HaveObjects new.nodes
  objects a =
      moves.each_new (λ e. has_objects new.nodes e.node ≡ true)
      (λ n z at. (objects_reread_there g.nodes new.nodes x (entry n z ∷ []) (
        reads_all (λ y. is_object_at new.nodes (x y) ≡ is_object_at g.nodes y) object_still n z at,
        tt,
      )
      (all_found (λ e. has_objects g.nodes e.node ≡ true) g.nodes n z at a, tt)).0)

  -- where the numbers ascend below the next one, and the size is the same, all is kept
  pub moved_kept : total_size es ≡ total_size g.nodes
      → (IsGraphOk g → Ascends es × Each (λ e. e.number < g.next) es) → IsKept g new
  moved_kept size numbers = record {
    sound = sound;
    keeps = keeps;
    types = types_kept;
    formed = λ good.
        let few : total_size g.nodes ≤ most_nodes = good.few in
        record {
          founded = record {
            ascends = (numbers good).0;
            below = (numbers good).1;
            there = sound.there;
            told = sound.told;
            ranked = sound.ranked;
          };
          nodes = moves.each_new (λ e. IsNodeOk new e.number e.node)
              (λ n z at. node_still n z at
              (all_found (λ e. IsNodeOk g e.number e.node) g.nodes n z at good.nodes));
          objects = objects good.objects;
          few = omega (arith, size);
        };
  }
