-- Two Pdos that become one leave a graph as well-formed as it was.
use Rattle.std.proofs.Common.{◌≡◌, ℕ, ◌+◌, ◌<◌, ◌≤◌, Bool, true, false, cond, eqb, ◌&&◌, ◌||◌, List, [], ◌∷◌, Some, refl, sym, ap, ◌∙◌, subst, arith}
use Rattle.std.specs.List.{AllByRecursion as Each}
use Rattle.std.proofs.lemmas.Bool.{eqb-true, eq-eqb, false≢true}
use Rattle.combine_table.specs.declared.comb.Comb.{Comb}
use Rattle.combine_table.proofs.of_flume_value.EachLemmas.{Each-both}
use Rattle.exec_graph.specs.declared.graph.Place.{Place}
use Rattle.exec_graph.specs.declared.graph.Node.{Node}
use Rattle.exec_graph.specs.declared.graph.Node.TheVariants.{Pdo}
use Rattle.exec_graph.specs.declared.graph.Entry.{Entry}
use Rattle.exec_graph.specs.declared.graph.Graph.{Graph}
use Rattle.exec_graph.specs.Forests.{Forest, steps}
use Rattle.exec_graph.specs.Meaning.{AllDiffer, node_at, place}
use Rattle.exec_graph.specs.Readers.{among, any_node, calls_on, collects, is_read, readers, same_place, uses}
use Rattle.exec_graph.specs.Wellformed.{IsLiftedOk, comb_at, root_comb, total_size, most_nodes}
use Rattle.exec_graph.proofs.Bools.{not_true, or_left}
use Rattle.exec_graph.proofs.Entries.{all_found, all_map, entry}
use Rattle.exec_graph.proofs.Soundness.{differ_ascends}
use Rattle.graph_laws.specs.Joining.{CanJoin, joined_into, moved, reread, reread_entry, set_node, without}
use Rattle.graph_laws.proofs.Changes.{all_set, all_set_others, all_without, differ_without, node_at-without_other}
use Rattle.graph_laws.proofs.Nearly.{IsFar, IsNear, NearNode, Spares, among_spared, calls_spared, collects_spared, comb_mapped, comb_set, near_reread, uses_spared}
use Rattle.graph_laws.proofs.Reading.{any_here, any_map, any_set, any_without, ascends_map, ascends_set, ascends_without, size_map, size_set, size_without, those_has, those_map, those_not, those_set, those_without}
use Rattle.graph_laws.proofs.ObjectNodes.{node_without, objects_joined}
use Rattle.graph_laws.proofs.Setting.{node_set}
use Rattle.graph_laws.proofs.Wellness.{node_at-map, node_at-set_same}

far_from : (n : ℕ) (x : Place) → (x.node ≡ n → ⊥) → eqb x.node n ≡ false
far_from n x far = not_true (eqb x.node n) (λ i. far (eqb-true x.node n i))

no_place : (x d : Place) → (x.node ≡ d.node → ⊥) → same_place x d ≡ false
no_place x d far = ap (λ b. b && eqb x.out d.out) (far_from d.node x far)

moved_spares : (p q : ℕ) (x : Place) → IsFar p q x.node → Spares (moved p q) x
moved_spares p q x far d = by (eqb d.node q) refl
  where
    by : (b : Bool) → eqb d.node q ≡ b
        → same_place x (cond b (place p d.out) d) ≡ same_place x d
    by true e =
        no_place x (place p d.out) far.0
        ∙ sym (no_place x d (λ i. far.1 (i ∙ eqb-true d.node q e)))
    by false e = refl

-- ---- one node
pub without_lacks : (es : List Entry) (q : ℕ) (y : Node) → AllDiffer es → node_at es q ≡ Some y
    → Each (λ e. e.number ≡ q → ⊥) (without es q)
without_lacks [] q y d h = tt
without_lacks (e ∷ es) q y d h =
    by (eqb e.number q) refl h (λ i. without_lacks es q y d.1 i)
  where
    by : (b : Bool) → eqb e.number q ≡ b → cond b (Some e.node) (node_at es q) ≡ Some y
        → (node_at es q ≡ Some y → Each (λ e. e.number ≡ q → ⊥) (without es q))
        → Each (λ e. e.number ≡ q → ⊥) (cond b es (e ∷ without es q))
    by true i j f =
        subst (λ (k : ℕ). Each (λ e. e.number ≡ k → ⊥) es) (eqb-true e.number q i) d.0
    by false i j f = ((λ k. false≢true (sym i ∙ eq-eqb e.number q k)), f j)

-- ---- what a join has to keep
-- what is read stays read, and a group that may be lifted may still be
pub record JoinKeeps (g h : Graph) (p q : ℕ) : Type 0 where
  pub read : (x : Place) → IsFar p q x.node → is_read g x ≡ true → is_read h x ≡ true
  pub lift : (m : ℕ) (k : Comb) → IsFar p q m → IsLiftedOk g m k → IsLiftedOk h m k

-- where the Pdo that goes reads no such collection, all is as it was
module _ (g : Graph) (p q : ℕ) (c d : Place) (f h new : Forest) (can : CanJoin g p q c d f h)
    (x : Place) (far : IsFar p q x.node) where
  abbrev left : List Entry
  left = without g.nodes q

  abbrev z : Node
  z = Pdo c new

  abbrev r : Place → Place
  r = moved p q

  s : Spares r x
  s = moved_spares p q x far

  at_p : node_at left p ≡ Some (Pdo c f)
  at_p = node_at-without_other g.nodes q p (Pdo c f) can.apart can.keeper

  uses_same : same_place x d ≡ false
      → any_node (uses x) (joined_into g p q c new).nodes ≡ any_node (uses x) g.nodes
  uses_same no_d =
      any_map (uses x) r (uses_spared r x s) (set_node left p z)
      ∙ any_set (uses x) left p z (Pdo c f) at_p refl
      ∙ any_without (uses x) g.nodes q (Pdo d h) can.other (ap (λ b. b || false) no_d)

  uses_here : same_place x c ≡ true
      → any_node (uses x) (joined_into g p q c new).nodes ≡ true
  uses_here is_c =
      any_map (uses x) r (uses_spared r x s) (set_node left p z)
      ∙ any_here (uses x) (set_node left p z) p z (node_at-set_same left p z (Pdo c f) at_p)
      (ap (λ b. b || false) is_c)

  pub collects_same : any_node (collects x) (joined_into g p q c new).nodes
      ≡ any_node (collects x) g.nodes
  collects_same =
      any_map (collects x) r (collects_spared r x s) (set_node left p z)
      ∙ any_set (collects x) left p z (Pdo c f) at_p refl
      ∙ any_without (collects x) g.nodes q (Pdo d h) can.other refl

  readers_same : same_place x d ≡ false
      → readers (joined_into g p q c new).nodes x ≡ readers g.nodes x
  readers_same no_d =
      those_map (calls_on x) r (calls_spared r x s) (set_node left p z)
      ∙ those_set (calls_on x) left p z (Pdo c f) at_p refl
      ∙ those_without (calls_on x) g.nodes q (Pdo d h) can.other no_d

  pub outputs_same : among x (joined_into g p q c new).outputs ≡ among x g.outputs
  outputs_same = among_spared r x s g.outputs

  -- the combiner of a reader that is not the one that goes
  root_same : (m : ℕ) → (m ≡ q → ⊥) → root_comb new ≡ root_comb f
      → comb_at (node_at (joined_into g p q c new).nodes m) ≡ comb_at (node_at g.nodes m)
  root_same m gone root =
      ap comb_at (node_at-map r (set_node left p z) m)
      ∙ comb_mapped r (node_at (set_node left p z) m)
      ∙ comb_set left p m z (Pdo c f) at_p root
      ∙ ap comb_at (node_without g.nodes q m gone)

  root_other : (m : ℕ) → (m ≡ q → ⊥) → (m ≡ p → ⊥)
      → comb_at (node_at (joined_into g p q c new).nodes m) ≡ comb_at (node_at g.nodes m)
  root_other m gone apart =
      ap comb_at (node_at-map r (set_node left p z) m)
      ∙ comb_mapped r (node_at (set_node left p z) m)
      ∙ ap comb_at (node_set left p m z apart ∙ node_without g.nodes q m gone)

-- a group may still be lifted, where the Pdo that goes does not read it
lift_still : (g : Graph) (p q : ℕ) (c d : Place) (f h new : Forest) → AllDiffer g.nodes
    → CanJoin g p q c d f h → (m : ℕ) (k : Comb) → IsFar p q m
    → same_place (place m 0) d ≡ false → (a : IsLiftedOk g m k)
    → ((a.reader ≡ q → ⊥) → comb_at (node_at (joined_into g p q c new).nodes a.reader)
    ≡ comb_at (node_at g.nodes a.reader)) → IsLiftedOk (joined_into g p q c new) m k
lift_still g p q c d f h new differ can m k far none a root =
    let x : Place = place m 0 in
    let gone : a.reader ≡ q → ⊥ =
    (subst (Each (λ n. n ≡ q → ⊥)) a.alone
    (those_not (calls_on x) g.nodes q (Pdo d h) differ can.other none)).0 in
    record {
      untold = outputs_same g p q c d f h new can x far ∙ a.untold;
      uncollected = collects_same g p q c d f h new can x far ∙ a.uncollected;
      reader = a.reader;
      alone = readers_same g p q c d f h new can x far none ∙ a.alone;
      root = root gone ∙ a.root;
    }

-- ---- a kid
pub kid_keeps : (g : Graph) (p q : ℕ) (c d : Place) (f h new : Forest) → AllDiffer g.nodes
    → CanJoin g p q c d f h → d.node ≡ p → root_comb new ≡ root_comb f
    → JoinKeeps g (joined_into g p q c new) p q
kid_keeps g p q c d f h new differ can reads_p root = record {
  read = λ x far i.
      (λ j. uses_same g p q c d f h new can x far (no_d x far) j
      || outputs_same g p q c d f h new can x far j) ∙ i;
  lift = λ m k far a.
      lift_still g p q c d f h new differ can m k far (no_d (place m 0) far) a
      (λ gone. root_same g p q c d f h new can (place m 0) far a.reader gone root);
}
  where
    no_d : (x : Place) → IsFar p q x.node → same_place x d ≡ false
    no_d x far = no_place x d (λ i. far.0 (i ∙ reads_p))

-- ---- a sibling
pub sibling_keeps : (g : Graph) (p q : ℕ) (c : Place) (f h new : Forest) → AllDiffer g.nodes
    → CanJoin g p q c c f h → JoinKeeps g (joined_into g p q c new) p q
sibling_keeps g p q c f h new differ can = record {
  read = λ x far i. still x far (same_place x c) refl i;
  lift = λ m k far a.
      let x : Place = place m 0 in
      let one : ℕ → Type 0 = λ n. n ≡ a.reader in
      let all : Each one (readers g.nodes x) = subst (Each one) (sym a.alone) (refl, tt) in
      let none : same_place x c ≡ false = not_true (same_place x c) (λ e.
      can.apart (those_has one (calls_on x) g.nodes p (Pdo c f) can.keeper e all
      ∙ sym (those_has one (calls_on x) g.nodes q (Pdo c h) can.other e all))) in
      let apart : a.reader ≡ p → ⊥ =
      (subst (Each (λ n. n ≡ p → ⊥)) a.alone
      (those_not (calls_on x) g.nodes p (Pdo c f) differ can.keeper none)).0 in
      lift_still g p q c c f h new differ can m k far none a
      (λ gone. root_other g p q c c f h new can x far a.reader gone apart);
}
  where
    still : (x : Place) → IsFar p q x.node → (b : Bool) → same_place x c ≡ b
        → is_read g x ≡ true → is_read (joined_into g p q c new) x ≡ true
    still x far true e i =
        or_left (any_node (uses x) (joined_into g p q c new).nodes)
        (among x (joined_into g p q c new).outputs) (uses_here g p q c c f h new can x far e)
    still x far false e i =
        (λ j. uses_same g p q c c f h new can x far e j
        || outputs_same g p q c c f h new can x far j) ∙ i

-- ---- the joined graph
pub near_joined : (g : Graph) (p q : ℕ) (c d : Place) (f h new : Forest) → CanJoin g p q c d f h
    → steps new ≡ steps f + steps h → JoinKeeps g (joined_into g p q c new) p q → IsNear p q g
    → IsNear p p (joined_into g p q c new)
near_joined g p q c d f h new can count keeps near =
    let r : Place → Place = moved p q in
    let k : Graph = joined_into g p q c new in
    let left : List Entry = without g.nodes q in
    let z : Node = Pdo c new in
    let set : List Entry = set_node left p z in
    let differ : AllDiffer g.nodes = differ_ascends g.nodes near.ascends in
    let at_p : node_at left p ≡ Some (Pdo c f) =
    node_at-without_other g.nodes q p (Pdo c f) can.apart can.keeper in
    let below_left : Each (λ (e : Entry). e.number < g.next) left =
    all_without (λ e. e.number < g.next) g.nodes q near.below in
    let H : Entry → Type 0 = λ e. NearNode p p k e.number (reread r e.node) in
    let others : Each (λ (e : Entry). (e.number ≡ p → ⊥) → H e) left =
    Each-both (λ (e : Entry). NearNode p q g e.number e.node) (λ (e : Entry). e.number ≡ q → ⊥)
    (λ e. (e.number ≡ p → ⊥) → H e)
    (λ e a gone apart. near_reread p q p p g k r e.number e.node
    (λ f2 ok _. record {
      order = (ok (apart, gone)).order;
      read = λ j o. keeps.read (place e.number j) (apart, gone) ((ok (apart, gone)).read j o);
    }) (λ b ok. keeps.lift e.number b (apart, gone) ok) a) left
    (all_without (λ e. NearNode p q g e.number e.node) g.nodes q near.nodes)
    (without_lacks g.nodes q (Pdo d h) differ can.other) in
    let here : H (entry p z) = λ far. absurd (far.0 refl) in
    let one_less : total_size left + steps h ≡ total_size g.nodes =
    size_without g.nodes q (Pdo d h) can.other in
    let other : total_size set + steps f ≡ total_size left + steps new =
    size_set left p z (Pdo c f) at_p in
    let mapped_few : total_size k.nodes ≡ total_size set = size_map r set in
    let was : total_size g.nodes ≤ most_nodes = near.few in
    record {
      ascends = ascends_map r set (ascends_set left p z (Pdo c f) at_p
          (ascends_without g.nodes q near.ascends));
      below = all_map (reread_entry r) (λ (e : Entry). e.number < g.next)
          (λ e. e.number < g.next) (λ e i. i) set
          (all_set (λ e. e.number < g.next) left p z below_left
          (all_found (λ e. e.number < g.next) left p (Pdo c f) at_p below_left));
      few = omega arith;
      objects = objects_joined g p q c d f h new can near.objects;
      nodes = all_map (reread_entry r) H (λ e. NearNode p p k e.number e.node) (λ e a. a) set
          (all_set_others H left p z (differ_without g.nodes q differ) others here);
    }
