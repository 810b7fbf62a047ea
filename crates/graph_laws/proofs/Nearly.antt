-- Graphs that are well-formed but for the forests of two Pdos, and rewrites that keep them so.
use Rattle.std.proofs.Common.{◌≡◌, ℕ, ◌+◌, ◌<◌, ◌≤◌, Bool, true, false, cond, eqb, ◌&&◌, ◌||◌, List, [], ◌∷◌, length, map, Option, Some, inl, inr, ◌⊎◌, refl, sym, ap, ◌∙◌, subst, arith}
use Rattle.std.specs.List.{AllByRecursion as Each}
use Rattle.std.proofs.lemmas.List.{length-map}
use Rattle.std.proofs.lemmas.Bool.{eqb-true, eq-eqb, false≢true}
use Rattle.combine_table.specs.declared.comb.Comb.{Comb}
use Rattle.combine_table.proofs.of_flume_value.EachLemmas.{Each-weaker}
use Rattle.exec_graph.specs.declared.graph.Place.{Place}
use Rattle.exec_graph.specs.declared.graph.Node.{Node}
use Rattle.exec_graph.specs.declared.graph.Node.TheVariants.{Source, Flatten, Pdo, Gbk, Barrier}
use Rattle.exec_graph.specs.declared.graph.Entry.{Entry}
use Rattle.exec_graph.specs.declared.graph.Graph.{Graph}
use Rattle.exec_graph.specs.Forests.{Forest, steps}
use Rattle.exec_graph.specs.Meaning.{node_at, place}
use Rattle.exec_graph.specs.Readers.{among, any_node, calls_on, collects, is_read, same_place, uses}
use Rattle.exec_graph.specs.Wellformed.{HaveObjects, Ascends, IsForestOk, IsGraphOk, IsLiftedOk, IsNodeOk, comb_at, root_comb, total_size, most_nodes}
use Rattle.exec_graph.proofs.Bools.{not_true, or_else, or_left, or_right}
use Rattle.combine_table.proofs.of_flume_value.BoolLemmas.{both_true}
use Rattle.exec_graph.proofs.Entries.{all_found, all_map, entry}
use Rattle.exec_graph.proofs.Soundness.{differ_ascends}
use Rattle.graph_laws.specs.Joining.{reread, reread_entry, set_node}
use Rattle.graph_laws.specs.Kids.{moved_out, refitted}
use Rattle.graph_laws.proofs.Changes.{all_set, all_set_others}
use Rattle.graph_laws.proofs.Reading.{any_map, any_map_to, any_set, ascends_map, ascends_set, size_map, size_set, those_map, those_set}
use Rattle.graph_laws.proofs.Wellness.{mapped, node_at-map}
use Rattle.graph_laws.proofs.ObjectNodes.{kind_set, objects_refitted}

-- neither of two numbers
abbrev pub IsFar : ℕ → ℕ → ℕ → Type 0
IsFar p q n = (n ≡ p → ⊥) × (n ≡ q → ⊥)

-- a node is ok, but for the forest of a Pdo of one of two numbers
abbrev pub NearNode : ℕ → ℕ → Graph → ℕ → Node → Type 0
NearNode p q g n (Flatten ins) = (0 < length ins) × (length ins ≤ most_nodes)
NearNode p q g n (Pdo c f) = IsFar p q n → IsForestOk g n f
NearNode p q g n (Gbk c o l (Some k)) = IsLiftedOk g n k
NearNode p q g n _ = Unit {0}

pub record IsNear (p q : ℕ) (g : Graph) : Type 0 where
  pub ascends : Ascends g.nodes
  pub below : Each (λ e. e.number < g.next) g.nodes
  pub few : total_size g.nodes ≤ most_nodes
  pub objects : HaveObjects g.nodes
  pub nodes : Each (λ e. NearNode p q g e.number e.node) g.nodes

node_near : (p q : ℕ) (g : Graph) (n : ℕ) (x : Node) → IsNodeOk g n x → NearNode p q g n x
node_near p q g n (Flatten ins) a = a
node_near p q g n (Pdo c f) a = λ far. a
node_near p q g n (Gbk c o l (Some k)) a = a
node_near p q g n _ a = tt

pub near_from : (p q : ℕ) (g : Graph) → IsGraphOk g → IsNear p q g
near_from p q g ok = record {
  ascends = ok.founded.ascends;
  below = ok.founded.below;
  few = ok.few;
  objects = ok.objects;
  nodes = Each-weaker (λ (e : Entry). IsNodeOk g e.number e.node)
      (λ e. NearNode p q g e.number e.node) (λ e a. node_near p q g e.number e.node a) g.nodes
      ok.nodes;
}

-- ---- nodes that read elsewhere, but where it matters
-- to read elsewhere is all one to the readers of x
abbrev pub Spares : (Place → Place) → Place → Type 0
Spares r x = (d : Place) → same_place x (r d) ≡ same_place x d

pub among_spared : (r : Place → Place) (x : Place) → Spares r x → (ds : List Place)
    → among x (map r ds) ≡ among x ds
among_spared r x h [] = refl
among_spared r x h (d ∷ ds) = let i = among_spared r x h ds in let j = h d in cc

pub calls_spared : (r : Place → Place) (x : Place) → Spares r x → (y : Node)
    → calls_on x (reread r y) ≡ calls_on x y
calls_spared r x h (Pdo c f) = h c
calls_spared r x h _ = refl

pub collects_spared : (r : Place → Place) (x : Place) → Spares r x → (y : Node)
    → collects x (reread r y) ≡ collects x y
collects_spared r x h (Source s) = refl
collects_spared r x h (Flatten ins) = among_spared r x h ins
collects_spared r x h (Pdo c f) = refl
collects_spared r x h (Gbk c o l k) = h c
collects_spared r x h (Barrier ins o l a) = among_spared r x h ins

pub uses_spared : (r : Place → Place) (x : Place) → Spares r x → (y : Node)
    → uses x (reread r y) ≡ uses x y
uses_spared r x h y = λ i. calls_spared r x h y i || collects_spared r x h y i

pub comb_mapped : (r : Place → Place) (o : Option Node) → comb_at (mapped r o) ≡ comb_at o
comb_mapped r (Some (Source s)) = refl
comb_mapped r _ = refl

pub comb_set : (es : List Entry) (n m : ℕ) (x y : Node) → node_at es n ≡ Some y
    → comb_at (Some x) ≡ comb_at (Some y)
    → comb_at (node_at (set_node es n x) m) ≡ comb_at (node_at es m)
comb_set es n m x y h e = kind_set comb_at es n m x y h e

-- ---- a Pdo with another forest, whose outputs are numbered otherwise
away : (n : ℕ) (x : Place) → (x.node ≡ n → ⊥) → eqb x.node n ≡ false
away n x far = not_true (eqb x.node n) (λ i. far (eqb-true x.node n i))

out_spares : (n : ℕ) (r : ℕ → ℕ) (x : Place) → (x.node ≡ n → ⊥) → Spares (moved_out n r) x
out_spares n r x far d = by (eqb d.node n) refl
  where
    by : (b : Bool) → eqb d.node n ≡ b
        → same_place x (cond b (place n (r d.out)) d) ≡ same_place x d
    by true q =
        ap (λ b. b && eqb x.out (r d.out)) (away n x far)
        ∙ sym (ap (λ (m : ℕ). eqb x.node m && eqb x.out d.out) (eqb-true d.node n q)
        ∙ ap (λ b. b && eqb x.out d.out) (away n x far))
    by false q = refl

-- what is done to the graph
pub record CanRefit (g : Graph) (n : ℕ) (c : Place) (f new : Forest) : Type 0 where
  pub at : node_at g.nodes n ≡ Some (Pdo c f)
  pub steps : steps new ≡ steps f
  pub root : root_comb new ≡ root_comb f

refit_read : (g : Graph) (n : ℕ) (c : Place) (f new : Forest) (r : ℕ → ℕ) → CanRefit g n c f new
    → (x : Place) → (x.node ≡ n → ⊥) → is_read (refitted g n c new r) x ≡ is_read g x
refit_read g n c f new r can x far =
    let mv : Place → Place = moved_out n r in
    let s : Spares mv x = out_spares n r x far in
    let used : any_node (uses x) (refitted g n c new r).nodes ≡ any_node (uses x) g.nodes =
    any_map (uses x) mv (uses_spared mv x s) (set_node g.nodes n (Pdo c new))
    ∙ any_set (uses x) g.nodes n (Pdo c new) (Pdo c f) can.at refl in
    λ i. used i || among_spared mv x s g.outputs i

refit_lift : (g : Graph) (n : ℕ) (c : Place) (f new : Forest) (r : ℕ → ℕ) → CanRefit g n c f new
    → (m : ℕ) (k : Comb) → (m ≡ n → ⊥) → IsLiftedOk g m k
    → IsLiftedOk (refitted g n c new r) m k
refit_lift g n c f new r can m k far a =
    let mv : Place → Place = moved_out n r in
    let x : Place = place m 0 in
    let s : Spares mv x = out_spares n r x far in
    let z : Node = Pdo c new in
    let set : List Entry = set_node g.nodes n z in
    record {
      untold = among_spared mv x s g.outputs ∙ a.untold;
      uncollected = any_map (collects x) mv (collects_spared mv x s) set
          ∙ any_set (collects x) g.nodes n z (Pdo c f) can.at refl ∙ a.uncollected;
      reader = a.reader;
      alone = those_map (calls_on x) mv (calls_spared mv x s) set
          ∙ those_set (calls_on x) g.nodes n z (Pdo c f) can.at refl ∙ a.alone;
      root = ap comb_at (node_at-map mv set a.reader) ∙ comb_mapped mv (node_at set a.reader)
          ∙ comb_set g.nodes n a.reader z (Pdo c f) can.at can.root ∙ a.root;
    }

-- a node of a number that is far from what is rewritten
pub near_reread : (p q p2 q2 : ℕ) (g h : Graph) (r : Place → Place) (n : ℕ) (x : Node)
    → ((f : Forest) → (IsFar p q n → IsForestOk g n f) → IsFar p2 q2 n → IsForestOk h n f)
    → ((k : Comb) → IsLiftedOk g n k → IsLiftedOk h n k) → NearNode p q g n x
    → NearNode p2 q2 h n (reread r x)
near_reread p q p2 q2 g h r n (Flatten ins) a b i =
    subst (λ (k : ℕ). (0 < k) × (k ≤ most_nodes)) (sym (length-map ins r)) i
near_reread p q p2 q2 g h r n (Pdo c f) a b i = a f i
near_reread p q p2 q2 g h r n (Gbk c o l (Some k)) a b i = b k i
near_reread p q p2 q2 g h r n _ a b i = tt

abbrev pub IsEither : ℕ → ℕ → ℕ → Type 0
IsEither p q n = (n ≡ p) ⊎ (n ≡ q)

not_far : (p q n : ℕ) → IsEither p q n → IsFar p q n → ⊥
not_far p q n (inl e) far = far.0 e
not_far p q n (inr e) far = far.1 e

pub near_refitted : (p q : ℕ) (g : Graph) (n : ℕ) (c : Place) (f new : Forest) (r : ℕ → ℕ)
    → IsEither p q n → CanRefit g n c f new → IsNear p q g → IsNear p q (refitted g n c new r)
near_refitted p q g n c f new r free can near =
    let mv : Place → Place = moved_out n r in
    let h : Graph = refitted g n c new r in
    let z : Node = Pdo c new in
    let set : List Entry = set_node g.nodes n z in
    let H : Entry → Type 0 = λ e. NearNode p q h e.number (reread mv e.node) in
    let others : Each (λ (e : Entry). (e.number ≡ n → ⊥) → H e) g.nodes =
    Each-weaker (λ (e : Entry). NearNode p q g e.number e.node)
    (λ e. (e.number ≡ n → ⊥) → H e)
    (λ e a apart. near_reread p q p q g h mv e.number e.node
    (λ f2 ok far. record {
      order = (ok far).order;
      read = λ j o. refit_read g n c f new r can (place e.number j) apart ∙ (ok far).read j o;
    }) (λ k ok. refit_lift g n c f new r can e.number k apart ok) a) g.nodes near.nodes in
    let here : H (entry n z) = λ far. absurd (not_far p q n free far) in
    let few : total_size set + steps f ≡ total_size g.nodes + steps new =
    size_set g.nodes n z (Pdo c f) can.at in
    let mapped_few : total_size h.nodes ≡ total_size set = size_map mv set in
    let same : steps new ≡ steps f = can.steps in
    let was : total_size g.nodes ≤ most_nodes = near.few in
    record {
      ascends = ascends_map mv set (ascends_set g.nodes n z (Pdo c f) can.at near.ascends);
      below = all_map (reread_entry mv) (λ (e : Entry). e.number < g.next)
          (λ e. e.number < g.next) (λ e i. i) set
          (all_set (λ e. e.number < g.next) g.nodes n z near.below
          (all_found (λ e. e.number < g.next) g.nodes n (Pdo c f) can.at near.below));
      few = omega arith;
      objects = objects_refitted g n c f new r can.at near.objects;
      nodes = all_map (reread_entry mv) H (λ e. NearNode p q h e.number e.node) (λ e a. a) set
          (all_set_others H g.nodes n z (differ_ascends g.nodes near.ascends) others here);
    }

-- what is read of the Pdo itself is read under its new number
same_to : (n i : ℕ) (r : ℕ → ℕ) (d : Place) → same_place (place n i) d ≡ true
    → same_place (place n (r i)) (moved_out n r d) ≡ true
same_to n i r d h =
    let p = both_true (eqb n d.node) (eqb i d.out) h in
    let node : n ≡ d.node = eqb-true n d.node p.0 in
    let out : i ≡ d.out = eqb-true i d.out p.1 in
    rw (eq-eqb d.node n (sym node), eq-eqb n n refl) (eq-eqb (r i) (r d.out) (ap r out))

among_to : (n i : ℕ) (r : ℕ → ℕ) (ds : List Place) → among (place n i) ds ≡ true
    → among (place n (r i)) (map (moved_out n r) ds) ≡ true
among_to n i r [] h = h
among_to n i r (d ∷ ds) h =
    let x : Place = place n (r i) in
    let mv : Place → Place = moved_out n r in
    or_else ((same_place x (mv d) || among x (map mv ds)) ≡ true) (same_place (place n i) d)
    (among (place n i) ds) h
    (λ e. or_left (same_place x (mv d)) (among x (map mv ds)) (same_to n i r d e))
    (λ e. or_right (same_place x (mv d)) (among x (map mv ds)) (among_to n i r ds e))

uses_to : (n i : ℕ) (r : ℕ → ℕ) (y : Node) → uses (place n i) y ≡ true
    → uses (place n (r i)) (reread (moved_out n r) y) ≡ true
uses_to n i r (Source s) h = h
uses_to n i r (Flatten ins) h = among_to n i r ins h
uses_to n i r (Pdo c f) h =
    or_else ((same_place (place n (r i)) (moved_out n r c) || false) ≡ true)
    (same_place (place n i) c) false h
    (λ e. or_left (same_place (place n (r i)) (moved_out n r c)) false (same_to n i r c e))
    (λ e. absurd (false≢true e))
uses_to n i r (Gbk c o l k) h = same_to n i r c h
uses_to n i r (Barrier ins o l a) h = among_to n i r ins h

pub read_to : (g : Graph) (n : ℕ) (c : Place) (f new : Forest) (r : ℕ → ℕ)
    → node_at g.nodes n ≡ Some (Pdo c f) → (i : ℕ) → is_read g (place n i) ≡ true
    → is_read (refitted g n c new r) (place n (r i)) ≡ true
read_to g n c f new r at i h =
    let x : Place = place n i in
    let y : Place = place n (r i) in
    let mv : Place → Place = moved_out n r in
    let k : Graph = refitted g n c new r in
    or_else (is_read k y ≡ true) (any_node (uses x) g.nodes) (among x g.outputs) h
    (λ e. or_left (any_node (uses y) k.nodes) (among y k.outputs)
    (any_map_to (uses x) (uses y) mv (uses_to n i r) (set_node g.nodes n (Pdo c new))
    (any_set (uses x) g.nodes n (Pdo c new) (Pdo c f) at refl ∙ e)))
    (λ e. or_right (any_node (uses y) k.nodes) (among y k.outputs) (among_to n i r g.outputs e))
