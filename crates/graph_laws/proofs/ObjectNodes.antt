-- What reads objects reads objects after a rewrite of Pdos.
use Rattle.std.proofs.Common.{◌≡◌, ℕ, Bool, true, false, cond, eqb, List, [], ◌∷◌, map, Option, Some, refl, sym, ap, ◌∙◌}
use Rattle.std.specs.List.{AllByRecursion as Each}
use Rattle.std.proofs.lemmas.Bool.{eqb-true, eq-eqb, false≢true}
use Rattle.exec_graph.specs.declared.graph.Place.{Place}
use Rattle.exec_graph.specs.declared.graph.Node.{Node}
use Rattle.exec_graph.specs.declared.graph.Node.TheVariants.{Source, Pdo, Barrier}
use Rattle.exec_graph.specs.declared.graph.Entry.{Entry}
use Rattle.exec_graph.specs.declared.graph.Graph.{Graph}
use Rattle.exec_graph.specs.Forests.{Forest}
use Rattle.exec_graph.specs.Meaning.{node_at, place, reads}
use Rattle.exec_graph.specs.Objects.{takes_such}
use Rattle.exec_graph.specs.Wellformed.{HaveObjects, has_objects, is_object, is_object_at}
use Rattle.exec_graph.proofs.Bools.{not_true}
use Rattle.exec_graph.proofs.Entries.{entry}
use Rattle.graph_laws.specs.Joining.{CanJoin, joined_into, moved, reread, reread_entry, set_node, without}
use Rattle.graph_laws.specs.Kids.{moved_out, refitted}
use Rattle.graph_laws.proofs.Changes.{all_set, all_without, node_at-without_other}
use Rattle.graph_laws.proofs.Wellness.{mapped, node_at-map, node_at-set_same}

-- ---- nodes
-- what a test says of nodes, where a node becomes another of which it says the same
pub kind_set : {X : Type 0} (t : Option Node → X) (es : List Entry) (n m : ℕ) (x y : Node)
    → node_at es n ≡ Some y → t (Some x) ≡ t (Some y)
    → t (node_at (set_node es n x) m) ≡ t (node_at es m)
kind_set t [] n m x y h e = let bad : ⊥ = cc in absurd bad
kind_set {X} t (d ∷ es) n m x y h e =
    by (eqb d.number n) refl h (λ i. kind_set t es n m x y i e)
  where
    pick : (b : Bool) (u v : Option Node) → t (Some x) ≡ t u
        → t (cond b (Some x) v) ≡ t (cond b u v)
    pick true u v i = i
    pick false u v i = refl

    later : (b : Bool) (u v w : Option Node) → t v ≡ t w → t (cond b u v) ≡ t (cond b u w)
    later true u v w i = refl
    later false u v w i = i

    by : (b : Bool) → eqb d.number n ≡ b → cond b (Some d.node) (node_at es n) ≡ Some y
        → (node_at es n ≡ Some y → t (node_at (set_node es n x) m) ≡ t (node_at es m))
        → t (node_at (cond b (entry n x ∷ es) (d ∷ set_node es n x)) m)
        ≡ t (cond (eqb d.number m) (Some d.node) (node_at es m))
    by true q i f =
        pick (eqb n m) (Some d.node) (node_at es m) (e ∙ ap t (sym i))
        ∙ ap (λ (k : ℕ). t (cond (eqb k m) (Some d.node) (node_at es m)))
        (sym (eqb-true d.number n q))
    by false q i f = later (eqb d.number m) (Some d.node) (node_at (set_node es n x) m)
        (node_at es m) (f i)

pub node_without : (es : List Entry) (q m : ℕ) → (m ≡ q → ⊥)
    → node_at (without es q) m ≡ node_at es m
node_without [] q m far = refl
node_without (d ∷ es) q m far = by (eqb d.number q) refl (node_without es q m far)
  where
    by : (b : Bool) → eqb d.number q ≡ b → node_at (without es q) m ≡ node_at es m
        → node_at (cond b es (d ∷ without es q)) m
        ≡ cond (eqb d.number m) (Some d.node) (node_at es m)
    by true e i = sym (ap (λ b. cond b (Some d.node) (node_at es m))
        (not_true (eqb d.number m) (λ j. far (sym (eqb-true d.number m j)
        ∙ eqb-true d.number q e))))
    by false e i = ap (cond (eqb d.number m) (Some d.node)) i

pub object_mapped : (r : Place → Place) (o : Option Node) → is_object (mapped r o) ≡ is_object o
object_mapped r (Some (Source s)) = refl
object_mapped r _ = refl

object_reread : (r : Place → Place) (es : List Entry) (n : ℕ)
    → is_object (node_at (map (reread_entry r) es) n) ≡ is_object (node_at es n)
object_reread r es n = ap is_object (node_at-map r es n) ∙ object_mapped r (node_at es n)

-- ---- nodes that read elsewhere objects where they read objects
pub flags_reread : (new old : Place → Bool) (r : Place → Place) (cs : List Place)
    → Each (λ c. new (r c) ≡ old c) cs → map new (map r cs) ≡ map old cs
flags_reread new old r [] a = refl
flags_reread new old r (c ∷ cs) a =
    let i = flags_reread new old r cs a.1 in let j : new (r c) ≡ old c = a.0 in cc

node_reread : (old new : List Entry) (r : Place → Place) (x : Node)
    → Each (λ c. is_object_at new (r c) ≡ is_object_at old c) (reads x)
    → has_objects old x ≡ true → has_objects new (reread r x) ≡ true
node_reread old new r (Barrier ins o l d) h a =
    ap (takes_such d) (flags_reread (is_object_at new) (is_object_at old) r ins h) ∙ a
node_reread old new r _ h a = a

pub objects_reread_there : (old new : List Entry) (r : Place → Place) (es : List Entry)
    → Each (λ e. Each (λ c. is_object_at new (r c) ≡ is_object_at old c) (reads e.node)) es
    → Each (λ e. has_objects old e.node ≡ true) es
    → Each (λ e. has_objects new e.node ≡ true) (map (reread_entry r) es)
objects_reread_there old new r [] h a = tt
objects_reread_there old new r (e ∷ es) h a =
    (node_reread old new r e.node h.0 a.0, objects_reread_there old new r es h.1 a.1)

each_any : (P : Place → Type 0) → ((c : Place) → P c) → (cs : List Place) → Each P cs
each_any P h [] = tt
each_any P h (c ∷ cs) = (h c, each_any P h cs)

each_node : (P : Place → Type 0) → ((c : Place) → P c) → (es : List Entry)
    → Each (λ e. Each P (reads e.node)) es
each_node P h [] = tt
each_node P h (e ∷ es) = (each_any P h (reads e.node), each_node P h es)

objects_reread : (old new : List Entry) (r : Place → Place)
    → ((c : Place) → is_object_at new (r c) ≡ is_object_at old c) → (es : List Entry)
    → Each (λ e. has_objects old e.node ≡ true) es
    → Each (λ e. has_objects new e.node ≡ true) (map (reread_entry r) es)
objects_reread old new r h es a =
    objects_reread_there old new r es
    (each_node (λ c. is_object_at new (r c) ≡ is_object_at old c) h es) a

-- ---- a Pdo with another forest
moved_node : (n : ℕ) (r : ℕ → ℕ) (c : Place) → (moved_out n r c).node ≡ c.node
moved_node n r c = by (eqb c.node n) refl
  where
    by : (b : Bool) → eqb c.node n ≡ b → (cond b (place n (r c.out)) c).node ≡ c.node
    by true q = sym (eqb-true c.node n q)
    by false q = refl

pub objects_refitted : (g : Graph) (n : ℕ) (c : Place) (f new : Forest) (r : ℕ → ℕ)
    → node_at g.nodes n ≡ Some (Pdo c f) → HaveObjects g.nodes
    → HaveObjects (refitted g n c new r).nodes
objects_refitted g n c f new r at a =
    let mv : Place → Place = moved_out n r in
    let set : List Entry = set_node g.nodes n (Pdo c new) in
    objects_reread g.nodes (refitted g n c new r).nodes mv
    (λ d. object_reread mv set (mv d).node ∙ ap (λ (k : ℕ). is_object (node_at set k))
    (moved_node n r d) ∙ kind_set is_object g.nodes n d.node (Pdo c new) (Pdo c f) at refl) set
    (all_set (λ (e : Entry). has_objects g.nodes e.node ≡ true) g.nodes n (Pdo c new) a refl)

-- ---- two Pdos that become one
pub objects_joined : (g : Graph) (p q : ℕ) (c d : Place) (f h new : Forest)
    → CanJoin g p q c d f h → HaveObjects g.nodes → HaveObjects (joined_into g p q c new).nodes
objects_joined g p q c d f h new can a =
    let left : List Entry = without g.nodes q in
    let z : Node = Pdo c new in
    let set : List Entry = set_node left p z in
    let at_p : node_at left p ≡ Some (Pdo c f) =
    node_at-without_other g.nodes q p (Pdo c f) can.apart can.keeper in
    objects_reread g.nodes (joined_into g p q c new).nodes (moved p q)
    (λ x. object_reread (moved p q) set (moved p q x).node
    ∙ by x (eqb x.node q) refl at_p) set
    (all_set (λ (e : Entry). has_objects g.nodes e.node ≡ true) left p z
    (all_without (λ (e : Entry). has_objects g.nodes e.node ≡ true) g.nodes q a) refl)
  where
    by : (x : Place) (b : Bool) → eqb x.node q ≡ b
        → node_at (without g.nodes q) p ≡ Some (Pdo c f)
        → is_object (node_at (set_node (without g.nodes q) p (Pdo c new))
        (cond b (place p x.out) x).node) ≡ is_object (node_at g.nodes x.node)
    by x true i at_p =
        ap is_object (node_at-set_same (without g.nodes q) p (Pdo c new) (Pdo c f) at_p)
        ∙ sym (ap is_object (ap (node_at g.nodes) (eqb-true x.node q i) ∙ can.other))
    by x false i at_p =
        kind_set is_object (without g.nodes q) p x.node (Pdo c new) (Pdo c f) at_p refl
        ∙ ap is_object (node_without g.nodes q x.node (λ e. false≢true (sym i ∙ eq-eqb x.node q e)))
