-- Two Pdos that exchange their numbers leave a graph as good as it was.
use Rattle.std.proofs.Common.{◌≡◌, ℕ, ◌+◌, ◌<◌, Bool, true, false, cond, eqb, List, Some, refl, sym, ap, ◌∙◌, subst, arith}
use Rattle.std.specs.List.{AllByRecursion as Each}
use Rattle.std.proofs.lemmas.Bool.{eqb-true, eq-eqb, false≢true}
use Rattle.std.proofs.lemmas.List.Folds.{flat_map-map}
use Rattle.flume_collection.specs.Sets.{gather}
use Rattle.flume_value.proofs.EachLemmas.{Each-weaker}
use Rattle.graph_bounds.specs.of_exec_graph.Forests.{Forest, steps}
use Rattle.graph_bounds.specs.of_exec_graph.Meaning.{IsSound, node_at, place}
use Rattle.graph_bounds.specs.of_exec_graph.Wellformed.{total_size}
use Rattle.graph_bounds.specs.of_exec_graph.declared.graph.Place.{Place}
use Rattle.graph_bounds.specs.of_exec_graph.declared.graph.Node.{Node}
use Rattle.graph_bounds.specs.of_exec_graph.declared.graph.Node.TheVariants.{Pdo}
use Rattle.graph_bounds.specs.of_exec_graph.declared.graph.Entry.{Entry}
use Rattle.graph_bounds.specs.of_exec_graph.declared.graph.Graph.{Graph}
use Rattle.graph_bounds.proofs.of_exec_graph.Entries.{all_found, all_map, entry, flat_map_alike}
use Rattle.graph_bounds.proofs.of_exec_graph.Solving.{each_found}
use Rattle.graph_bounds.specs.of_graph_laws.Joining.{reread, reread_entry, set_node}
use Rattle.graph_bounds.specs.of_graph_laws.Kids.{CanKid}
use Rattle.graph_bounds.proofs.of_graph_laws.Changes.{all_set, all_set_others}
use Rattle.graph_bounds.proofs.of_graph_laws.Kids.{IsKept}
use Rattle.graph_bounds.proofs.of_graph_laws.Reading.{ascends_map, ascends_set, size_map, size_set}
use Rattle.graph_bounds.proofs.of_graph_laws.Wellness.{differ_map, differ_set, mapped, node_at-map, node_at-set_other, node_at-set_same, reads_lower}
use Rattle.graph_bounds.proofs.of_pardo_fuse.Carried.{IsMoved, moved_kept}
use Rattle.graph_rewrites.specs.Exchange.{exchanged, other_number, swapped}
use Rattle.graph_rewrites.proofs.Numbers.{other_far, other_left, other_right, other_twice, sum_swapped}

-- ---- the exchange
module _ (g : Graph) (p q : ℕ) (c d : Place) (f h : Forest) (ok : IsSound g)
    (at_p : node_at g.nodes p ≡ Some (Pdo c f)) (at_q : node_at g.nodes q ≡ Some (Pdo d h))
    (apart : p ≡ q → ⊥) where
  abbrev x : Place → Place
  x = exchanged p q

  abbrev o : ℕ → ℕ
  o = other_number p q

  abbrev once : List Entry
  once = set_node g.nodes p (Pdo d h)

  abbrev set : List Entry
  set = set_node once q (Pdo c f)

  abbrev new : Graph
  new = swapped g p q c d f h

  at_once : node_at once q ≡ Some (Pdo d h)
  at_once = node_at-set_other g.nodes p q (Pdo d h) (Pdo d h) (λ e. apart (sym e)) at_q

  at_set : (n : ℕ) (z : Node) → node_at g.nodes n ≡ Some z → node_at set (o n) ≡ Some z
  at_set n z at = by (eqb n p) (eqb n q) refl refl
    where
      by : (a b : Bool) → eqb n p ≡ a → eqb n q ≡ b
          → node_at set (cond a q (cond b p n)) ≡ Some z
      by true b i j =
          node_at-set_same once q (Pdo c f) (Pdo d h) at_once
          ∙ sym at_p ∙ ap (node_at g.nodes) (sym (eqb-true n p i)) ∙ at
      by false true i j =
          node_at-set_other once q p (Pdo c f) (Pdo d h) apart
          (node_at-set_same g.nodes p (Pdo d h) (Pdo c f) at_p)
          ∙ sym at_q ∙ ap (node_at g.nodes) (sym (eqb-true n q j)) ∙ at
      by false false i j =
          node_at-set_other once q n (Pdo c f) z (λ e. false≢true (sym j ∙ eq-eqb n q e))
          (node_at-set_other g.nodes p n (Pdo d h) z (λ e. false≢true (sym i ∙ eq-eqb n p e)) at)

  pub at_new : (n : ℕ) (z : Node) → node_at g.nodes n ≡ Some z
      → node_at new.nodes (o n) ≡ Some (reread x z)
  at_new n z at = node_at-map x set (o n) ∙ ap (mapped x) (at_set n z at)

  -- each node stands in the graph before under the other number
  befores : Each (λ e. node_at g.nodes (o e.number) ≡ Some e.node) set
  befores =
      let H : Entry → Type 0 = λ e. node_at g.nodes (o e.number) ≡ Some e.node in
      all_set_others H once q (Pdo c f) (differ_set g.nodes p (Pdo d h) (Pdo c f) at_p ok.differ)
      (all_set_others (λ e. (e.number ≡ q → ⊥) → H e) g.nodes p (Pdo d h) ok.differ
      (Each-weaker (λ (e : Entry). node_at g.nodes e.number ≡ Some e.node)
      (λ (e : Entry). (e.number ≡ p → ⊥) → (e.number ≡ q → ⊥) → H e)
      (λ e at a b. ap (node_at g.nodes) (other_far p q e.number a b) ∙ at) g.nodes
      (each_found g.nodes ok.differ))
      (λ _. ap (node_at g.nodes) (other_left p q) ∙ at_q))
      (ap (node_at g.nodes) (other_right p q apart) ∙ at_p)

  moves : IsMoved g o o new.nodes
  moves = record {
    differ = differ_map x set (differ_set once q (Pdo c f) (Pdo d h) at_once
        (differ_set g.nodes p (Pdo d h) (Pdo c f) at_p ok.differ));
    back = λ n z at. other_twice p q n apart;
    at_new = at_new;
    each_new = λ P here. all_map (reread_entry x) (λ e. node_at g.nodes (o e.number) ≡ Some e.node)
        P (λ e at. subst (λ (n : ℕ). P (entry n (reread x e.node)))
        (other_twice p q e.number apart) (here (o e.number) e.node at)) set befores;
    sum = λ s sw F G same b.
        sum_swapped s sw (λ (e : Entry). F e.node) g.nodes p q (Pdo c f) (Pdo d h) b at_p at_q apart
        refl refl
        ∙ sym (ap (λ l. gather s l b) (flat_map-map (λ (e : Entry). G e.node) (reread_entry x) set
        ∙ flat_map_alike (λ e. G (reread x e.node)) (λ (e : Entry). F e.node) set
        (Each-weaker (λ (e : Entry). node_at g.nodes (o e.number) ≡ Some e.node)
        (λ e. G (reread x e.node) ≡ F e.node) (λ e at. same (o e.number) e.node at) set befores)));
  }

  below_all : Each (λ e. e.number < g.next) g.nodes → Each (λ e. e.number < g.next) new.nodes
  below_all a =
      let L : Entry → Type 0 = λ e. e.number < g.next in
      all_map (reread_entry x) L L (λ e i. i) set
      (all_set L once q (Pdo c f) (all_set L g.nodes p (Pdo d h) a
      (all_found L g.nodes p (Pdo c f) at_p a)) (all_found L g.nodes q (Pdo d h) at_q a))

  swap_kept : IsKept g new
  swap_kept =
      let first : total_size once + steps f ≡ total_size g.nodes + steps h =
      size_set g.nodes p (Pdo d h) (Pdo c f) at_p in
      let second : total_size set + steps h ≡ total_size once + steps f =
      size_set once q (Pdo c f) (Pdo d h) at_once in
      let mapped_size : total_size new.nodes ≡ total_size set = size_map x set in
      moved_kept g o o new.nodes ok moves (omega arith)
      (λ good. (
        ascends_map x set (ascends_set once q (Pdo c f) (Pdo d h) at_once
            (ascends_set g.nodes p (Pdo d h) (Pdo c f) at_p good.founded.ascends)),
        below_all good.founded.below,
      ))

-- ---- a Pdo and one that reads it

apart_kid : (g : Graph) (p k q : ℕ) (c : Place) (f h : Forest) → IsSound g
    → CanKid g p k q c f h → p ≡ q → ⊥
apart_kid g p k q c f h ok can e =
    let r : ℕ → ℕ = ok.ranked.0 in
    let low : r p < r q = reads_lower g q (place p k) h r can.other ok.ranked.1 in
    let same : r p ≡ r q = ap r e in omega arith

pub swapped_can : (g : Graph) (p k q : ℕ) (c : Place) (f h : Forest) → IsSound g
    → CanKid g p k q c f h → CanKid (swapped g p q c (place p k) f h) q k p c f h
swapped_can g p k q c f h ok can =
    let new : Graph = swapped g p q c (place p k) f h in
    let apart : p ≡ q → ⊥ = apart_kid g p k q c f h ok can in
    let r : ℕ → ℕ = ok.ranked.0 in
    let c_p : r c.node < r p = reads_lower g p c f r can.keeper ok.ranked.1 in
    let p_q : r p < r q = reads_lower g q (place p k) h r can.other ok.ranked.1 in
    let not_p : c.node ≡ p → ⊥ = λ e. let s : r c.node ≡ r p = ap r e in omega arith in
    let not_q : c.node ≡ q → ⊥ = λ e. let s : r c.node ≡ r q = ap r e in omega arith in
    let same : exchanged p q c ≡ c =
    ap (λ (n : ℕ). place n c.out) (other_far p q c.node not_p not_q) in
    let input : exchanged p q (place p k) ≡ place q k =
    ap (λ (n : ℕ). place n k) (other_left p q) in
    record {
      keeper = ap (node_at new.nodes) (sym (other_left p q))
          ∙ at_new g p q c (place p k) f h ok can.keeper can.other apart p (Pdo c f) can.keeper
          ∙ ap (λ (y : Place). Some (Pdo y f)) same;
      other = ap (node_at new.nodes) (sym (other_right p q apart))
          ∙ at_new g p q c (place p k) f h ok can.keeper can.other apart q (Pdo (place p k) h)
          can.other
          ∙ ap (λ (y : Place). Some (Pdo y h)) input;
    }

pub swapped_kept : (g : Graph) (p k q : ℕ) (c : Place) (f h : Forest) → IsSound g
    → CanKid g p k q c f h → IsKept g (swapped g p q c (place p k) f h)
swapped_kept g p k q c f h ok can =
    swap_kept g p q c (place p k) f h ok can.keeper can.other (apart_kid g p k q c f h ok can)
